-- the plain text of a command spells it
use Rattle.std.proofs.Common.{◌≡◌, ◌≤◌, ◌∷◌, [], Bool, refl, arith, rules, codes}
use Rattle.serde_json.specs.Data.{depth}
use Rattle.serde_json.specs.Read.{max_depth}
use Rattle.fy_kinds.specs.Members.{Members}
use Rattle.fy_spelling.specs.Fits.{IsU32, FitsAct}
use Rattle.fy_spelling.specs.Values.{whole, fields, act_data, in_order, kinds_in}
use Rattle.fy_spelling.specs.Command.{gathered, asking, IsJson, ParsesAs}
use Rattle.fy_spelling.specs.Plain.{command_data, command_text}
use Rattle.fy_spelling.specs.RoundTrip.{MembersRoundTrip}
use Rattle.fy_spelling.specs.declared.command.Command.{Command}
use Rattle.fy_spelling.proofs.Shapes.{word, short, tame_act, depth_listing}
use Rattle.fy_spelling.proofs.RoundTrip.{read_put, utf8_put}

-- a set is that of its deeds in order
all_gathered : (p r d k c : Bool)
    → (let kinds : Members = record { reboot_process = p; reboot = r; reboot_and_delete = d; kill_instantly = k; clog = c } in gathered (in_order kinds) ≡ kinds)
all_gathered p r d k c = search rules

pub gathered_in_order : (kinds : Members) → gathered (in_order kinds) ≡ kinds
gathered_in_order kinds = all_gathered kinds.reboot_process kinds.reboot kinds.reboot_and_delete kinds.kill_instantly kinds.clog

pub depth_command : (command : Command) → depth (command_data command) ≤ max_depth
depth_command command = omega (arith, depth_listing (in_order (kinds_in command.act)) command.act)

-- the plain text is JSON of the value of a line that asks for the command
pub plain_json : (command : Command) → IsU32 command.by → FitsAct command.act → IsJson (command_text command) (asking command.by (act_data command.act))
unfolding command_text
plain_json command by fits =
    let members = fields ((codes "by", whole command.by) ∷ (codes "act", act_data command.act) ∷ []) in
    let tame : MembersRoundTrip members = (word _ refl, short command.by by, (word _ refl, tame_act command.act fits, tt)) in
    record { text = utf8_put members tame; reads = read_put members tame (depth_command command) }

pub plain_spells : (command : Command) → IsU32 command.by → FitsAct command.act → ParsesAs (command_text command) command
plain_spells command by fits = record {
  kinds = in_order (kinds_in command.act);
  same = gathered_in_order (kinds_in command.act);
  by = by;
  act = fits;
  json = plain_json command by fits;
}
