use Rattle.std.proofs.Common.{◌≡◌, ℕ, ◌+◌, ◌<◌, ◌≤◌, Bool, true, ◌&&◌, not, length, slice_index_or}
use Rattle.std.specs.Ordering.{nat_cmp}
use Rattle.std.specs.FinSet as sets
use Rattle.fy_policy.specs.Counted.{number_of}
use Rattle.fy_policy.specs.Sat.{satisfies}
use Rattle.fy_policy.specs.Shape.{tree_of}
use Rattle.fy_policy.specs.Tree.{IsWellFormed}
use Rattle.fy_policy.specs.declared.shape.Shape.{Shape}
use Rattle.fy_tolerance.specs.Costs.{AreSized, IsBreaking, IsWithin}
use Rattle.fy_tolerance.proofs.Breaking.{BrokenSoFar}
use Rattle.fy_tolerance.proofs.Lacking.{LackSoFar}
use Rattle.fy_tolerance.proofs.Values.{present}
use Rattle.fy_tolerance.proofs.fewest_to_break.+fewest_to_break.Given as goal

abbrev pub decreases-fewest_to_break : goal.decreases-fewest_to_break
decreases-fewest_to_break l = goal.size-fewest_to_break l

abbrev pub invariant-loop-p : goal.invariant-loop-p
invariant-loop-p l = record {
  least : IsWellFormed (tree_of l.shape)
      → (s : ℕ → Bool) (level : ℕ) → IsWithin s (sets.contains l.group)
      → LackSoFar l.map l.key (tree_of l.inner.value) (sets.contains l.group) (sets.contains l.rest) l.values.items s level;
  few : length l.values.items + present (sets.contains l.rest) 1024 ≤ 1024;
  sized : IsWellFormed (tree_of l.shape) → AreSized (length l.map) l.values.items;
  broken : IsWellFormed (tree_of l.shape) → (set : sets.FinSet nat_cmp)
      → BrokenSoFar l.map l.key (tree_of l.inner.value) (sets.contains l.group) (sets.contains l.rest) l.values.items set;
}

abbrev pub decreases-loop-p : goal.decreases-loop-p
decreases-loop-p l = present (sets.contains l.rest) 1024

-- a set that lacks fewer satisfies the parts so far; without the best set they aren't all satisfied
abbrev pub invariant-loop-part : goal.invariant-loop-part
invariant-loop-part l = record {
  least : IsWellFormed (tree_of l.shape)
      → (s : ℕ → Bool) → IsWithin s (sets.contains l.group)
      → number_of (λ p. sets.contains l.group p && not (s p)) (length l.map) < l.best.least
      → (k : ℕ) (d : Shape) → k < l.part-index → satisfies l.map (tree_of (slice_index_or l.part-items k d)) s ≡ true;
  breaking : IsWellFormed (tree_of l.shape) → l.best.least ≤ 1024
      → IsBreaking l.map (tree_of l.shape) (sets.contains l.group) l.best;
}
