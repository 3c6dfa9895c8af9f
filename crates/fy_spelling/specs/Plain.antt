-- the plain spelling of a line of a script
use Rattle.std.specs.Prelude.{ℕ, List, [], ◌∷◌, codes}
use Rattle.serde_json.specs.Data.{Data}
use Rattle.serde_json.specs.Written.{compact_text}
use Rattle.fy_spelling.specs.Fits.{IsU32, FitsAct}
use Rattle.fy_spelling.specs.Command.{ParsesAs}
use Rattle.fy_spelling.specs.Values.{whole, with_fields, act_data}
use Rattle.fy_spelling.specs.declared.command.Command.{Command}

-- who asks and for what, in the order in which scripts are written
abbrev pub command_data : Command → Data
command_data command =
    with_fields ((codes "by", whole command.by) ∷ (codes "act", act_data command.act) ∷ [])

-- the plain text of a command, without its line end
unfoldable pub command_text : Command → List ℕ
command_text command = compact_text (command_data command)

-- the plain text of a command is a line that asks for it
abbrev pub PlainTextParses : Type 0
PlainTextParses =
    (command : Command) → IsU32 command.by → FitsAct command.act
    → ParsesAs (command_text command) command
