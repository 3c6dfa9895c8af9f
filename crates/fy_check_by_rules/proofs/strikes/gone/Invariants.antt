use Rattle.std.proofs.Common.{◌≡◌, take}
use Rattle.fy_cluster.specs.History.{gone}
use Rattle.fy_check_by_rules.specs.Past.{past}
use Rattle.fy_check_by_rules.proofs.strikes.gone.Given as goal

abbrev pub invariant-loop-step : goal.invariant-loop-step
invariant-loop-step l = l.gone ≡ gone (past (take l.step-index l.before.steps.now)) l.p.0
