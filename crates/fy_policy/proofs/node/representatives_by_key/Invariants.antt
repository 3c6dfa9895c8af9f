use Rattle.std.proofs.Common.{◌≡◌, ◌<◌, ℕ, length}
use Rattle.fy_policy.specs.Counted.{IsRepresentative, group_at}
use Rattle.fy_policy.proofs.node.representatives_by_key.Given as goal

abbrev pub invariant-loop-p : goal.invariant-loop-p
invariant-loop-p l = record {
  wide : length l.below.items ≡ l.p;
  leaders : (q : ℕ) → q < l.p → IsRepresentative l.map l.key (group_at l.places) q (group_at l.below.items q);
}
