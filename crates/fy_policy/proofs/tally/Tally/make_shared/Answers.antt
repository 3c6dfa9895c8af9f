use Rattle.std.proofs.Common.{◌≡◌, ◌≤◌, ℕ, ltb, sym, ap, subst, slice_index_or, length, ◌∙◌, MatchOption}
use Rattle.std.specs.FinSet as sets
use Rattle.fy_policy.specs.Counted.{IsBuiltFrom, group_at}
use Rattle.fy_policy.specs.Tree.{IsWellFormed}
use Rattle.fy_policy.specs.Shape.{tree_of}
use Rattle.fy_policy.proofs.Standing.{tallied-first}
use Rattle.fy_policy.proofs.tally.Tally.make_shared.Goals as goal

pub invariant_of-result : goal.invariant_of-result
invariant_of-result c =
    tallied-first c.args.map.now.value c.in_ok-try_clone.field-0.value c.args.policy.now c.in_ok-try_copy.field-0 (tree_of c.shape.result.now) c.everyone.result c.empty.result c.deref-3.result.now c.in-Some.node
    c.in_ok-try_clone.ensures c.in_ok-try_copy.ensures c.shape.ensures.shape c.empty.ensures
    (λ i. ap (λ xs. slice_index_or xs i 0) c.deref-3.ensures.value ∙ c.in_ok-places.ensures.zeros i)
    (subst (λ m. length m ≤ 1024) c.deref.ensures c.len.ensures.few)
    (subst (λ m. (q : ℕ) → sets.contains c.everyone.result q ≡ ltb q (length m)) c.deref-4.ensures c.everyone.ensures)
    (subst (λ m. IsBuiltFrom m (group_at c.deref-3.result.now) (tree_of c.shape.result.now) c.in-Some.node) c.deref-2.ensures
    (subst (λ o. MatchOption o ⊥ (IsBuiltFrom c.deref-2.result.now (group_at c.deref-3.result.now) (tree_of c.shape.result.now))) c.in-Some.is
    (c.in_ok-node.ensures (subst IsWellFormed (sym c.shape.ensures.shape) c.shape.ensures.policy.counted))))
