use Rattle.std.proofs.Common.{◌≡◌, ◌≤◌, take}
use Rattle.fy_check_by_rules.specs.Written.{place}
use Rattle.fy_check_by_rules.specs.Past.{past}
use Rattle.fy_check_by_rules.proofs.writes.place.Given as goal

abbrev pub invariant-loop-step : goal.invariant-loop-step
invariant-loop-step l = (l.place ≡ place (past (take l.step-index l.steps)) l.p.0) × (l.place ≤ l.step-index)
