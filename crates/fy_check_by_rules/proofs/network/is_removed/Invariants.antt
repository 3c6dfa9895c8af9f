use Rattle.std.proofs.Common.{◌≡◌, take}
use Rattle.fy_cluster.specs.History.{sent, is_removed}
use Rattle.fy_check_by_rules.specs.Past.{past}
use Rattle.fy_check_by_rules.proofs.network.is_removed.Given as goal

abbrev pub invariant-loop-step : goal.invariant-loop-step
invariant-loop-step l = (l.sent.items ≡ sent (past (take l.step-index l.before.steps.now))) × (l.taken ≡ is_removed (past (take l.step-index l.before.steps.now)) l.message)
