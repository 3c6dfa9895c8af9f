use Rattle.std.proofs.Common.{◌≡◌, ◌≤◌, ◌-◌, ◌++◌, length, take, drop}
use Rattle.fy_events.specs.Columns.{events_before}
use Rattle.fy_events.proofs.columns.count_before.Given as goal

abbrev pub invariant-loop-at : goal.invariant-loop-at
invariant-loop-at l =
    (l.at ≤ length l.events)
    × (events_before l.events l.count ≡ take l.at l.events ++ events_before (drop l.at l.events) l.count)

abbrev pub decreases-loop-at : goal.decreases-loop-at
decreases-loop-at l = length l.events - l.at
