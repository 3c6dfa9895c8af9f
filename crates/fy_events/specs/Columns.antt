-- columns of a picture by time
use Rattle.std.specs.Prelude.{◌≡◌, ◌<◌, ◌≤◌, ◌+◌, ◌*◌, ℕ, nat_lt, nat_le, List, [], ◌∷◌, length, slice_get, Some, if◌then◌else◌}
use Rattle.fy_events.specs.declared.TheConstants.{TENTH_MICROS}
use Rattle.fy_events.specs.declared.event.Event.{Event}
use Rattle.fy_events.specs.declared.columns.TimeColumns.{TimeColumns}

-- the time of an entry: that of its event, or else of the last event of an entry before; from the
-- start on, where there is none
abbrev pub time_from : (start : ℕ) → List Event → (entry : ℕ) → ℕ
time_from start [] entry = start
time_from start (event ∷ events) entry =
    if nat_le event.entry entry then time_from event.micros events entry else start

-- the events of the first entries, of which there are so many
abbrev pub events_before : List Event → (count : ℕ) → List Event
events_before [] count = []
events_before (event ∷ events) count =
    if nat_lt event.entry count then event ∷ events_before events count else []

-- the time of the last event
abbrev pub last_from : (start : ℕ) → List Event → ℕ
last_from start [] = start
last_from start (event ∷ events) = last_from event.micros events

-- how many of so many entries come before a time: those before the first event at that time or
-- later
abbrev pub end_at : List Event → (count time : ℕ) → ℕ
end_at [] count time = count
end_at (event ∷ events) count time =
    if nat_lt event.micros time then end_at events count time else event.entry

-- how long a column lasts: the fewest tenths of a second with which the most columns reach past the
-- last event
pub record IsTimeWidth (most last width : ℕ) : Type 0 where
  pub tenths : ℕ
  pub is : width ≡ tenths * TENTH_MICROS
  pub some : 0 < tenths
  pub room : last < most * width
  pub least : (other : ℕ) → 0 < other → last < most * (other * TENTH_MICROS) → tenths ≤ other

-- columns that follow one another from 0 on, the fewest that reach past the last event. Each ends
-- before the first entry that comes at its end or later
pub record AreTimeColumns (events : List Event) (count most : ℕ) (columns : TimeColumns) : Type 0
  where
    pub width : IsTimeWidth most (last_from 0 events) columns.width
    pub few : length columns.ends.items ≤ most
    pub reach : last_from 0 events < length columns.ends.items * columns.width
    pub least : (other : ℕ) → last_from 0 events < other * columns.width
        → length columns.ends.items ≤ other
    pub each : (k : ℕ) → k < length columns.ends.items
        → slice_get columns.ends.items k ≡ Some (end_at events count ((k + 1) * columns.width))

-- ends that don't fall
abbrev pub DontFall : List ℕ → Type 0
DontFall ends =
    (i j low high : ℕ) → i ≤ j → slice_get ends i ≡ Some low → slice_get ends j ≡ Some high
    → low ≤ high
