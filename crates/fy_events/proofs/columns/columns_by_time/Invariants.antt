use Rattle.std.proofs.Common.{◌≡◌, ◌≤◌, ◌<◌, ◌+◌, ◌*◌, ℕ, length, drop, Some, slice_get}
use Rattle.fy_events.specs.Columns.{end_at}
use Rattle.fy_events.proofs.columns.columns_by_time.Given as goal

abbrev pub invariant-loop-column : goal.invariant-loop-column
invariant-loop-column l =
    record {
      within : l.at ≤ length l.events;
      passed : (count later : ℕ) → l.column * l.width ≤ later
          → end_at l.events count later ≡ end_at (drop l.at l.events) count later;
      many : length l.ends.items ≡ l.column;
      each : (k : ℕ) → k < l.column
          → slice_get l.ends.items k ≡ Some (end_at l.events l.count ((k + 1) * l.width));
    }
