use Rattle.std.proofs.Common.{◌≡◌, ◌≤◌, ◌*◌, take}
use Rattle.fy_cluster.specs.History.{now, clog_ends}
use Rattle.fy_check_by_rules.specs.Past.{past}
use Rattle.fy_check_by_rules.proofs.clock.clogged.Given as goal

abbrev pub invariant-loop-step : goal.invariant-loop-step
invariant-loop-step l = (l.then ≡ now (past (take l.step-index l.before.steps.now))) × (l.then ≤ l.step-index * 18446744073709551615) × (l.until ≡ clog_ends (past (take l.step-index l.before.steps.now)) l.p.0)
