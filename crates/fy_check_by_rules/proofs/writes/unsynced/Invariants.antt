use Rattle.std.proofs.Common.{◌≡◌, take}
use Rattle.fy_check_by_rules.specs.Written.{is_open, written}
use Rattle.fy_check_by_rules.specs.Past.{past}
use Rattle.fy_check_by_rules.proofs.Written.{later_at, recs}
use Rattle.fy_check_by_rules.proofs.writes.unsynced.Given as goal

abbrev pub invariant-loop-i : goal.invariant-loop-i
invariant-loop-i l = l.list.items ≡ recs (written l.p.0 (is_open l.p.0) (later_at l.before.steps.now l.i) (past (take l.i l.before.steps.now)))
