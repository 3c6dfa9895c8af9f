-- what a line says, with its texts as lists of bytes
use Rattle.std.specs.Prelude.{ℕ, List, option_map}
use Rattle.std.specs.Borrow.{Bor}
use Rattle.fy_history.specs.declared.line.Ask.{Ask}
use Rattle.fy_history.specs.declared.line.Ask.TheVariants as ask
use Rattle.fy_history.specs.declared.line.Outcome.{Outcome}
use Rattle.fy_history.specs.declared.line.Outcome.TheVariants as outcome
use Rattle.fy_history.specs.declared.line.Found.{Found}
use Rattle.fy_history.specs.declared.line.Found.TheVariants as found
use Rattle.fy_history.specs.declared.line.Event.{Event}
use Rattle.fy_history.specs.declared.line.Event.TheVariants as event
use Rattle.fy_history.specs.declared.line.Line.{Line}

-- a text that is borrowed
abbrev pub Lent : Type 0
Lent = Bor (List ℕ)

-- what a client asks
abbrev pub ask_view : Ask Lent → Ask (List ℕ)
ask_view (ask.Write key value) = ask.Write key.now value.now
ask_view (ask.Read key node) = ask.Read key.now node

-- how what was asked ended
abbrev pub outcome_view : Outcome Lent → Outcome (List ℕ)
outcome_view (outcome.Done found times) = outcome.Done (option_map (λ text. text.now) found) times
outcome_view outcome.Failed = outcome.Failed
outcome_view outcome.Refused = outcome.Refused
outcome_view outcome.Unknown = outcome.Unknown

-- what was found on a disk
abbrev pub found_view : Found Lent → Found (List ℕ)
found_view (found.Has key value) = found.Has key.now value.now
found_view found.All = found.All
found_view found.Some = found.Some
found_view (found.Stands key) = found.Stands key.now
found_view found.NothingElse = found.NothingElse

-- what happened
abbrev pub event_view : Event Lent → Event (List ℕ)
event_view (event.Begins client ask) = event.Begins client (ask_view ask)
event_view (event.Ends client ask outcome) =
    event.Ends client (ask_view ask) (outcome_view outcome)
event_view (event.Entry entry does) = event.Entry entry does
event_view event.Written = event.Written
event_view (event.Disk node found) = event.Disk node (found_view found)

-- a line
abbrev pub line_view : Line Lent → Line (List ℕ)
line_view line = record {
  index = line.index;
  nanos = line.nanos;
  event = event_view line.event;
}
