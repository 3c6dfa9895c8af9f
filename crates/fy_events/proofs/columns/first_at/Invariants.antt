use Rattle.std.proofs.Common.{◌≡◌, ◌≤◌, ◌-◌, ℕ, length, drop}
use Rattle.fy_events.specs.Columns.{end_at}
use Rattle.fy_events.proofs.columns.first_at.Given as goal

abbrev pub invariant-loop-at : goal.invariant-loop-at
invariant-loop-at l =
    (l.at ≤ length l.events)
    × ((count later : ℕ) → l.time ≤ later
    → end_at (drop l.from l.events) count later ≡ end_at (drop l.at l.events) count later)

abbrev pub decreases-loop-at : goal.decreases-loop-at
decreases-loop-at l = length l.events - l.at
