use Rattle.std.proofs.Common.{◌≡◌, take}
use Rattle.fy_cluster.specs.Rules.{grants}
use Rattle.fy_check_by_rules.specs.Past.{past}
use Rattle.fy_check_by_rules.proofs.rights.grants.Given as goal

abbrev pub invariant-loop-step : goal.invariant-loop-step
invariant-loop-step l = l.own.items ≡ grants l.before.config.now (past (take l.step-index l.before.steps.now)) l.actor
