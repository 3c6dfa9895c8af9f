use Rattle.std.proofs.Common.{◌≡◌, take}
use Rattle.fy_cluster.specs.Rules.{is_protected}
use Rattle.fy_check_by_rules.specs.Past.{past}
use Rattle.fy_check_by_rules.specs.Deeds.{deed_of}
use Rattle.fy_check_by_rules.proofs.rights.is_protected.Given as goal

abbrev pub invariant-loop-step : goal.invariant-loop-step
invariant-loop-step l = l.protected ≡ is_protected l.before.config.now (past (take l.step-index l.before.steps.now)) l.p.0 (deed_of l.asked)
