-- what a value asks, if anything: a question is told by the one member of the object at `ask`
use Rattle.std.specs.Prelude.{◌≡◌, ◌≤◌, ◌<◌, ℕ, List, Bool, true, false, codes, length, if◌then◌else◌, bytes_eq, Option, Some, None, option_map, Result, Ok, Err}
use Rattle.serde_json.specs.Data.{Data, Members as Fields, no_members, member}
use Rattle.serde_json.specs.Find.{as_object}
use Rattle.fy_locality.specs.Chain.{◌>>=◌}
use Rattle.fy_kinds.specs.Kinds.{rank}
use Rattle.fy_kinds.specs.Orders.{Order as Orders}
use Rattle.fy_kinds.specs.declared.kind.Kind.{Kind}
use Rattle.fy_kinds.specs.declared.order.Target.{Target}
use Rattle.fy_spelling.specs.Candidate.{clog_in, five, kind_from, one, process_from, sole, target_from, target_in, two, u32_from, u64_from}
use Rattle.fy_spelling.specs.Command.{IsJson}
use Rattle.fy_spelling.specs.declared.command.LineFault.{LineFault}
use Rattle.fy_spelling.specs.declared.command.LineFault.TheVariants.{TooLong, Syntax, Floor}
use Rattle.fy_spelling.specs.declared.command.TheConstants.{MOST_LINE_BYTES}
use Rattle.fy_questions.specs.declared.question.Attempt.TheVariants as attempt
use Rattle.fy_questions.specs.declared.question.Question.{Question}
use Rattle.fy_questions.specs.declared.question.Question.TheVariants as ask
use Rattle.fy_asking.specs.declared.reading.Unchecked.{Unchecked}
use Rattle.fy_asking.specs.declared.reading.Unchecked.TheVariants.{Order, Other}

-- ---- questions

-- an object without members
abbrev pub nothing_in : Fields → Bool
nothing_in no_members = true
nothing_in (member k d ms) = false

-- an object without members, and nothing else
abbrev pub is_empty_object : Option Fields → Bool
is_empty_object None = false
is_empty_object (Some ms) = nothing_in ms

-- a question that has no members
abbrev pub plain_in : Question → Data → Option Question
plain_in question d = if is_empty_object (as_object d) then Some question else None

-- to judge a kill by an actor, whether or not its floor is above its kind
abbrev pub order_asked : ℕ → Data → Option Unchecked
order_asked by d = do
  values ← five (codes "floor") (codes "key") (codes "kind") (codes "tear") (codes "value") d
  floor ← kind_from values.0
  target ← target_from values.1 values.4
  kind ← kind_from values.2
  tear ← u64_from values.3
  Some (Order by target kind floor tear)

-- to judge a clog by an actor
abbrev pub clog_asked : ℕ → Data → Option Unchecked
clog_asked by d =
    option_map (λ c. Other (ask.Judge by (attempt.Clog c.0 c.1))) (clog_in d)

-- to judge an act by its name, a kill or a clog
abbrev pub attempt_asked : ℕ → List ℕ → Data → Option Unchecked
attempt_asked by name d =
    if bytes_eq name (codes "kill") then order_asked by d
    else if bytes_eq name (codes "clog") then clog_asked by d
    else None

-- to judge what a line of a script asks for
abbrev pub judge_asked : Data → Option Unchecked
judge_asked d = do
  values ← two (codes "act") (codes "by") d
  by ← u32_from values.1
  named ← sole values.0
  attempt_asked by named.0 named.1

-- of the state of one process, or of all
abbrev pub state_asked : Data → Option Question
state_asked d =
    if is_empty_object (as_object d) then Some ask.States
    else option_map ask.State (one (codes "process") d >>= process_from)

-- a question of numbers or of a target, by its name
abbrev pub plain_asked : List ℕ → Data → Option Question
plain_asked name d =
    if bytes_eq name (codes "killable") then
    option_map ask.Killable (one (codes "actor") d >>= u32_from)
    else if bytes_eq name (codes "state") then state_asked d
    else if bytes_eq name (codes "targets") then option_map ask.Targets (target_in d)
    else if bytes_eq name (codes "record") then
    option_map ask.Record (one (codes "record") d >>= u32_from)
    else if bytes_eq name (codes "needed") then
    option_map ask.Needed (one (codes "process") d >>= process_from)
    else if bytes_eq name (codes "cluster") then plain_in ask.Cluster d
    else if bytes_eq name (codes "sight") then plain_in ask.Sight d
    else if bytes_eq name (codes "bears") then plain_in ask.Bears d
    else None

-- any question, by its name
abbrev pub named_asked : List ℕ → Data → Option Unchecked
named_asked name d =
    if bytes_eq name (codes "judge") then judge_asked d
    else option_map Other (plain_asked name d)

-- what a value asks
abbrev pub question_from : Data → Option Unchecked
question_from d = do
  asked ← one (codes "ask") d
  named ← sole asked
  named_asked named.0 named.1

-- ---- lines

-- the question is to judge a kill by an order of these parts
pub record JudgesKill (question : Question) (by : ℕ) (target : Target) (kind floor : Kind) (tear : ℕ)
    : Type 0 where
  pub order : Orders
  pub is : question ≡ ask.Judge by (attempt.Kill order)
  pub target_is : order.target ≡ target
  pub kind_is : order.kind ≡ kind
  pub floor_is : order.floor ≡ floor
  pub tear_is : order.tear ≡ tear

-- the question that is asked, or the fault of a floor above its kind
abbrev pub IsCheckedAsk : Unchecked → Result Question LineFault → Type 0
IsCheckedAsk (Order by target kind floor tear) (Ok question) =
    JudgesKill question by target kind floor tear
IsCheckedAsk (Order by target kind floor tear) (Err fault) =
    (fault ≡ Floor) × (rank kind < rank floor)
IsCheckedAsk (Other asked) answer = answer ≡ Ok asked

-- the line is JSON of a value that asks something, which comes to this
pub record IsAsked (line : List ℕ) (answer : Result Question LineFault) : Type 0 where
  pub value : Data
  pub json : IsJson line value
  pub asked : Unchecked
  pub found : question_from value ≡ Some asked
  pub comes : IsCheckedAsk asked answer

-- what a line comes to, where it may ask alone: its question, or its first fault
abbrev pub AskOf : List ℕ → Result Question LineFault → Type 0
AskOf line (Ok question) = (length line ≤ MOST_LINE_BYTES) × IsAsked line (Ok question)
AskOf line (Err TooLong) = MOST_LINE_BYTES < length line
AskOf line (Err Syntax) =
    (length line ≤ MOST_LINE_BYTES)
    × ((value : Data) → IsJson line value → question_from value ≡ None)
AskOf line (Err Floor) = (length line ≤ MOST_LINE_BYTES) × IsAsked line (Err Floor)
