use Rattle.std.proofs.Common.{◌≡◌, ◌≤◌}
use Rattle.std.specs.FinSet as sets
use Rattle.fy_policy.specs.Counted.{number_of}
use Rattle.fy_tolerance.proofs.fewest_to_break.size.Given as goal

abbrev pub invariant-loop-p : goal.invariant-loop-p
invariant-loop-p l = record {
  counted : l.count ≡ number_of (sets.contains l.set) l.p;
  few : l.count ≤ l.p;
}
