use Rattle.std.proofs.Common.{ℕ, Bool, length}
use Rattle.std.specs.List.{AllByRecursion}
use Rattle.std.specs.Ordering.{nat_cmp}
use Rattle.std.specs.FinSet as sets
use Rattle.fy_decide.specs.Safety.{everyone}
use Rattle.fy_policy.specs.Shape.{tree_of}
use Rattle.fy_policy.specs.Tree.{IsWellFormed}
use Rattle.fy_tolerance.specs.Costs.{AreSized, HasNoAnd, IsWithin, NeedsAtLeast}
use Rattle.fy_tolerance.proofs.Needing.{NeedSoFar}
use Rattle.fy_tolerance.proofs.Sufficing.{EnoughSoFar}
use Rattle.fy_tolerance.proofs.Values.{present}
use Rattle.fy_tolerance.proofs.fewest_to_satisfy.+fewest_to_satisfy.Given as goal

abbrev pub decreases-fewest_to_satisfy : goal.decreases-fewest_to_satisfy
decreases-fewest_to_satisfy l = goal.size-fewest_to_satisfy l

abbrev pub invariant-loop-p : goal.invariant-loop-p
invariant-loop-p l = record {
  least : IsWellFormed (tree_of l.shape)
      → (s : ℕ → Bool) (level : ℕ) → IsWithin s (sets.contains l.group)
      → NeedSoFar l.map l.key (tree_of l.inner.value) (sets.contains l.free) (sets.contains l.rest) l.values.items s level;
  inside : IsWithin (sets.contains l.rest) (sets.contains l.group);
  within : AllByRecursion (λ part. IsWithin (sets.contains part.set) (sets.contains l.group)) l.values.items;
  sized : IsWellFormed (tree_of l.shape) → HasNoAnd (tree_of l.shape) → IsWithin (sets.contains l.group) (everyone l.map)
      → AreSized (length l.map) l.values.items;
  enough : IsWellFormed (tree_of l.shape) → HasNoAnd (tree_of l.shape) → IsWithin (sets.contains l.group) (everyone l.map)
      → (set : sets.FinSet nat_cmp) → IsWithin (sets.contains set) (sets.contains l.group)
      → EnoughSoFar l.map l.key (tree_of l.inner.value) (sets.contains l.group) (sets.contains l.free) (sets.contains l.rest) l.values.items set;
}

abbrev pub decreases-loop-p : goal.decreases-loop-p
decreases-loop-p l = present (sets.contains l.rest) 1024

-- a set that satisfies all parts has the greatest count so far
abbrev pub invariant-loop-part : goal.invariant-loop-part
invariant-loop-part l = record {
  least : IsWellFormed (tree_of l.shape)
      → NeedsAtLeast l.map (tree_of l.shape) (sets.contains l.group) (sets.contains l.free) l.least;
  within : IsWithin (sets.contains l.set) (sets.contains l.group);
}
