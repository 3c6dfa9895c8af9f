use Rattle.std.proofs.Common.{◌≡◌, drop}
use Rattle.fy_check_by_rules.proofs.Written.{keeps_first}
use Rattle.fy_check_by_rules.proofs.writes.first_keeps.Given as goal

abbrev pub invariant-loop-step : goal.invariant-loop-step
invariant-loop-step l = keeps_first l.p.0 l.place l.later ≡ keeps_first l.p.0 l.place (drop l.step-index l.later)
