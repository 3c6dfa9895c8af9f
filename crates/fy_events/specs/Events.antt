-- what a file of events says of the entries of an audit: a line of JSON for each event
use Rattle.std.specs.Prelude.{◌≡◌, ◌<◌, ◌≤◌, ◌+◌, ℕ, Bool, true, ◌&&◌, nat_lt, nat_le, nat_eq, List, [], ◌∷◌, ◌++◌, codes, length, IsUtf8, Result, Ok, Err, Option, Some, None, is_some, option_map, option_and_then, if◌then◌else◌, IsTrue, ⊤}
use Rattle.std.specs.Cmp.Lexicographic.{pointwise}
use Rattle.json.specs.Json.{Json, document}
use Rattle.json.specs.Find.{get, is_null, as_str, as_number, as_object}
use Rattle.fy_kinds.specs.Kinds.{kind_named}
use Rattle.fy_lines.specs.Lines.{lines_of}
use Rattle.fy_events.specs.Micros.{micros_from, whole_from}
use Rattle.fy_events.specs.declared.TheConstants.{MOST_EVENTS_BYTES, MOST_MICROS}
use Rattle.fy_events.specs.declared.event.Done.{Done}
use Rattle.fy_events.specs.declared.event.Done.TheVariants.{Untold, Nothing, Kill, Clog}
use Rattle.fy_events.specs.declared.event.Event.{Event}
use Rattle.fy_events.specs.declared.event.EventFault.{EventFault}
use Rattle.fy_events.specs.declared.event.EventFault.TheVariants.{Syntax, Entry, Time, Does, Order}
use Rattle.fy_events.specs.declared.events.EventsFault.{EventsFault}
use Rattle.fy_events.specs.declared.events.EventsFault.TheVariants.{TooLong, Line, NoMemory}

-- what was done, as it is written: a kind of kill, or a clog
abbrev pub done_named : List ℕ → Option Done
done_named text =
    if pointwise nat_eq (codes "Clog") text then Some Clog else option_map Kill (kind_named text)

-- what `does` says: null is nothing, and a text is what was done
abbrev pub done_from : Json → Option Done
done_from value =
    if is_null value then Some Nothing else option_and_then done_named (as_str value)

-- what an event says was done. It need not say it
abbrev pub done_of : Option Json → Option Done
done_of None = Some Untold
done_of (Some value) = done_from value

-- the entry is behind the one of the event before, and no earlier
abbrev pub follows : (last : Option Event) → Event → Bool
follows None event = true
follows (Some last) event = nat_lt last.entry event.entry && nat_le last.micros event.micros

-- an event that follows the one before
abbrev pub in_order : (last : Option Event) → Event → Result (Option Event) EventFault
in_order last event = if follows last event then Ok (Some event) else Err Order

-- an event of its three members, or the first fault
abbrev pub event_of : (last : Option Event) → (entry micros : Option ℕ) → Option Done
    → Result (Option Event) EventFault
event_of last None micros does = Err Entry
event_of last (Some entry) None does = Err Time
event_of last (Some entry) (Some micros) None = Err Does
event_of last (Some entry) (Some micros) (Some done) =
    in_order last (record { entry = entry; micros = micros; done = done })

-- what a value says of one of so many entries: nothing, where it has no `entry`
abbrev pub told : (count : ℕ) → (last : Option Event) → Json → Result (Option Event) EventFault
told count last value =
    if is_some (as_object value) then
    (if is_some (get (codes "entry") value) then
    event_of last
    (option_and_then (whole_from count) (option_and_then as_number (get (codes "entry") value)))
    (option_and_then micros_from (option_and_then as_number (get (codes "t") value)))
    (done_of (get (codes "does") value))
    else Ok None)
    else Err Syntax

-- the line is JSON of this value
pub record IsJson (line : List ℕ) (value : Json) : Type 0 where
  pub text : IsUtf8 line
  pub reads : document line ≡ Some value

-- what a line comes to behind the event before
pub data LineOf (count : ℕ) (last : Option Event) (line : List ℕ)
    : Result (Option Event) EventFault → Type 0 where
  json : (value : Json) → IsJson line value → LineOf count last line (told count last value)
  no_json : ((value : Json) → IsJson line value → ⊥) → LineOf count last line (Err Syntax)

-- the event before the next line
abbrev pub newer : (found last : Option Event) → Option Event
newer None last = last
newer (Some event) last = Some event

-- the events, with one more where it is one
abbrev pub and_then : List Event → Option Event → List Event
and_then events None = events
and_then events (Some event) = events ++ event ∷ []

-- the lines say these events of so many entries. Behind them stands the last of these
pub data AreEvents (count : ℕ) : List (List ℕ) → List Event → (last : Option Event) → Type 0 where
  none : AreEvents count [] [] None
  one_more : (lines : List (List ℕ)) (events : List Event) (last : Option Event) (line : List ℕ)
      (found : Option Event) → AreEvents count lines events last
      → LineOf count last line (Ok found)
      → AreEvents count (lines ++ line ∷ []) (and_then events found) (newer found last)

-- a line, counted from 1, is the first that is faulty, by this fault
pub record FirstFaulty (count : ℕ) (lines : List (List ℕ)) (number : ℕ) (fault : EventFault)
    : Type 0 where
  pub before : List (List ℕ)
  pub events : List Event
  pub last : Option Event
  pub line : List ℕ
  pub after : List (List ℕ)
  pub split : lines ≡ before ++ line ∷ after
  pub faultless : AreEvents count before events last
  pub place : number ≡ length before + 1
  pub here : LineOf count last line (Err fault)

-- what the bytes are: events of so many entries, or the first fault
abbrev pub EventsOf : (count : ℕ) → List ℕ → Result (List Event) EventsFault → Type 0
EventsOf count bytes (Ok events) =
    (length bytes ≤ MOST_EVENTS_BYTES)
    × (last : Option Event) × AreEvents count (lines_of bytes) events last
EventsOf count bytes (Err TooLong) = MOST_EVENTS_BYTES < length bytes
EventsOf count bytes (Err (Line number fault)) =
    (length bytes ≤ MOST_EVENTS_BYTES) × FirstFaulty count (lines_of bytes) number fault
EventsOf count bytes (Err NoMemory) = ⊥

-- what a reader may answer: what the bytes are, or that an allocation failed, which takes the place
-- of any answer but TooLong
abbrev pub EventsAnswers : (count : ℕ) → List ℕ → Result (List Event) EventsFault → Type 0
EventsAnswers count bytes (Err NoMemory) = length bytes ≤ MOST_EVENTS_BYTES
EventsAnswers count bytes answer = EventsOf count bytes answer

-- the last event
abbrev pub last_of : (before : Option Event) → List Event → Option Event
last_of before [] = before
last_of before (event ∷ events) = last_of (Some event) events

-- the event is behind the one before, and its entry and time are below their limits
pub record IsNext (count : ℕ) (before : Option Event) (event : Event) : Type 0 where
  pub follows : IsTrue (follows before event)
  pub entry : event.entry < count
  pub micros : event.micros < MOST_MICROS

-- behind the event before, each event is behind the one before it: entries rise, and times don't
-- fall
abbrev pub Rises : (count : ℕ) → (before : Option Event) → List Event → Type 0
Rises count before [] = ⊤
Rises count before (event ∷ events) = IsNext count before event × Rises count (Some event) events
