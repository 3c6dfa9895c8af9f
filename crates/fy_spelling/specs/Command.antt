-- a line of a script: which actor's act it asks for, or its first fault
use Rattle.std.specs.Prelude.{◌≡◌, ◌<◌, ◌≤◌, ℕ, List, [], ◌∷◌, codes, length, IsUtf8, Result, Ok, Err, Some}
use Rattle.serde_json.specs.Data.{Data}
use Rattle.serde_json.specs.Read.{read}
use Rattle.fy_kinds.specs.Kinds.{Deed, no_deed, only, in_either, rank}
use Rattle.fy_kinds.specs.Members.{Members}
use Rattle.fy_kinds.specs.declared.kind.Kind.{Kind}
use Rattle.fy_kinds.specs.declared.order.Target.{Target}
use Rattle.fy_spelling.specs.Fits.{IsU32, IsU64, FitsTarget, FitsAct}
use Rattle.fy_spelling.specs.Values.{whole, with_fields, under, order_value, act_listing, kinds_in}
use Rattle.fy_spelling.specs.declared.command.TheConstants.{MOST_LINE_BYTES}
use Rattle.fy_spelling.specs.declared.command.Command.{Command}
use Rattle.fy_spelling.specs.declared.command.LineFault.{LineFault}
use Rattle.fy_spelling.specs.declared.command.LineFault.TheVariants.{TooLong, Syntax, Floor}
use Rattle.fy_spelling.specs.declared.command.CommandFault.{CommandFault}
use Rattle.fy_spelling.specs.declared.command.CommandFault.TheVariants.{Line, NoMemory}

-- the set of the deeds of a list
abbrev pub gathered : List Deed → Members
gathered [] = no_deed
gathered (deed ∷ more) = in_either (only deed) (gathered more)

-- the value of a line by which this actor asks for something
abbrev pub asking : ℕ → Data → Data
asking by act = with_fields ((codes "act", act) ∷ (codes "by", whole by) ∷ [])

-- the line is JSON of this value, with any blanks and its members in any order
pub record IsJson (line : List ℕ) (value : Data) : Type 0 where
  pub text : IsUtf8 line
  pub reads : read line ≡ Some value

-- the line asks for the command, and lists its kinds in any order and as often as it likes
pub record ParsesAs (line : List ℕ) (command : Command) : Type 0 where
  pub kinds : List Deed
  pub same : gathered kinds ≡ kinds_in command.act
  pub by : IsU32 command.by
  pub act : FitsAct command.act
  pub json : IsJson line (asking command.by (act_listing kinds command.act))

-- the line asks for a kill whose floor is above its kind
pub record ParsesAsInverted (line : List ℕ) : Type 0 where
  pub actor : ℕ
  pub target : Target
  pub kind : Kind
  pub floor : Kind
  pub tear : ℕ
  pub above : rank kind < rank floor
  pub by : IsU32 actor
  pub fits : FitsTarget target × IsU64 tear
  pub json : IsJson line (asking actor (under (codes "kill") (order_value target kind floor tear)))

-- what a line comes to: the command that it spells, or its first fault
abbrev pub LineOf : List ℕ → Result Command LineFault → Type 0
LineOf line (Ok command) = (length line ≤ MOST_LINE_BYTES) × ParsesAs line command
LineOf line (Err TooLong) = MOST_LINE_BYTES < length line
LineOf line (Err Syntax) =
    (length line ≤ MOST_LINE_BYTES)
    × ((command : Command) → ParsesAs line command → ⊥)
    × (ParsesAsInverted line → ⊥)
LineOf line (Err Floor) = (length line ≤ MOST_LINE_BYTES) × ParsesAsInverted line

-- what a reader may answer: what the line comes to, or that an allocation failed, which takes the
-- place of any answer but TooLong
abbrev pub LineAnswers : List ℕ → Result Command CommandFault → Type 0
LineAnswers line (Ok command) = LineOf line (Ok command)
LineAnswers line (Err (Line fault)) = LineOf line (Err fault)
LineAnswers line (Err NoMemory) = length line ≤ MOST_LINE_BYTES
