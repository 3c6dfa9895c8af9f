use Rattle.std.proofs.Common.{◌≡◌, ℕ, take}
use Rattle.std.specs.FinSet as sets
use Rattle.fy_cluster.specs.History.{destroyed}
use Rattle.fy_check_by_rules.specs.Past.{past}
use Rattle.fy_check_by_rules.proofs.strikes.destroyed.Given as goal

abbrev pub invariant-loop-step : goal.invariant-loop-step
invariant-loop-step l = (p : ℕ) → sets.contains l.destroyed p ≡ destroyed (past (take l.step-index l.before.steps.now)) p
