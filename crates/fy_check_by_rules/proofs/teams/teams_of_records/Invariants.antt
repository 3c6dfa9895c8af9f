use Rattle.std.proofs.Common.{◌≡◌, ◌≤◌, take, map, length}
use Rattle.fy_cluster.specs.History.{records}
use Rattle.fy_check_by_rules.specs.Past.{past}
use Rattle.fy_check_by_rules.proofs.teams.teams_of_records.Given as goal

abbrev pub invariant-loop-step : goal.invariant-loop-step
invariant-loop-step l = record {
  teams : l.list.items ≡ map (λ b. b.team) (records (past (take l.step-index l.before.steps.now)));
  few : length l.list.items ≤ l.step-index;
}
