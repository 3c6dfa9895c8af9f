-- events in order: one more, and the last of them
use Rattle.std.proofs.Common.{◌≡◌, ◌<◌, ℕ, Bool, true, false, cond, nat_lt, ltb-true, List, [], ◌∷◌, ◌++◌, Option, Some, refl}
use Rattle.fy_events.specs.declared.event.Event.{Event}
use Rattle.fy_events.specs.declared.TheConstants.{MOST_MICROS}
use Rattle.fy_events.specs.Events.{IsNext, Rises, last_of}
use Rattle.fy_events.specs.Columns.{last_from, events_before}

-- one more event behind events in order
pub one_event_more : (count : ℕ) (before : Option Event) (events : List Event) (event : Event)
    → Rises count before events → IsNext count (last_of before events) event
    → Rises count before (events ++ event ∷ [])
one_event_more count before [] event all next = (next, tt)
one_event_more count before (first ∷ events) event all next =
    (all.0, one_event_more count (Some first) events event all.1 next)

-- it is the last then
pub last_is : (before : Option Event) (events : List Event) (event : Event)
    → last_of before (events ++ event ∷ []) ≡ Some event
last_is before [] event = refl
last_is before (first ∷ events) event = last_is (Some first) events event

-- the last comes in time
pub last_early : (count : ℕ) (before : Option Event) (events : List Event) (start : ℕ)
    → start < MOST_MICROS → Rises count before events → last_from start events < MOST_MICROS
last_early count before [] start early all = early
last_early count before (event ∷ events) start early all =
    last_early count (Some event) events event.micros all.0.micros all.1

-- the events of the first entries are in order too
pub first_rise : (all count : ℕ) (before : Option Event) (events : List Event)
    → Rises all before events → Rises count before (events_before events count)
first_rise all count before [] rises = tt
first_rise all count before (event ∷ events) rises =
    by (nat_lt event.entry count) refl (first_rise all count (Some event) events rises.1)
  where
    by : (b : Bool) → nat_lt event.entry count ≡ b
        → Rises count (Some event) (events_before events count)
        → Rises count before (cond b (event ∷ events_before events count) [])
    by true e rest =
        (record { follows = rises.0.follows; entry = ltb-true _ _ e; micros = rises.0.micros }, rest)
    by false e rest = tt
