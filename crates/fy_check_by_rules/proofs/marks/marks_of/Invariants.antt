use Rattle.std.proofs.Common.{◌≡◌, ℕ, take}
use Rattle.fy_team.specs.Teams.{is_among}
use Rattle.fy_cluster.specs.History.{acked, marked}
use Rattle.fy_check_by_rules.specs.Past.{past}
use Rattle.fy_check_by_rules.proofs.marks.marks_of.Given as goal

abbrev pub invariant-loop-i : goal.invariant-loop-i
invariant-loop-i l = record {
  acked : l.marks.acked ≡ acked (past (take l.i l.before.steps.now)) l.rec;
  marked : (p : ℕ) → is_among l.marks.marked.items p ≡ marked (past (take l.i l.before.steps.now)) l.rec p;
}
