use Rattle.std.proofs.Common.{◌≡◌, take, map}
use Rattle.fy_cluster.specs.History.{teams}
use Rattle.fy_check_by_rules.specs.Past.{past}
use Rattle.fy_check_by_rules.specs.Formed.{team_of}
use Rattle.fy_check_by_rules.proofs.teams.teams.Given as goal

abbrev pub invariant-loop-step : goal.invariant-loop-step
invariant-loop-step l = map team_of l.list.items ≡ teams (past (take l.step-index l.before.steps.now))
