use Rattle.std.proofs.Common.{◌≡◌, take}
use Rattle.fy_cluster.specs.History.{up}
use Rattle.fy_check_by_rules.specs.Past.{past}
use Rattle.fy_check_by_rules.proofs.strikes.up.Given as goal

abbrev pub invariant-loop-step : goal.invariant-loop-step
invariant-loop-step l = l.up ≡ up (past (take l.step-index l.before.steps.now)) l.p.0
