use Rattle.std.proofs.Common.{◌≡◌, ◌≤◌, ◌*◌, take}
use Rattle.fy_cluster.specs.History.{now}
use Rattle.fy_check_by_rules.specs.Past.{past}
use Rattle.fy_check_by_rules.proofs.clock.now.Given as goal

abbrev pub invariant-loop-step : goal.invariant-loop-step
invariant-loop-step l = (l.now ≡ now (past (take l.step-index l.before.steps.now))) × (l.now ≤ l.step-index * 18446744073709551615)
