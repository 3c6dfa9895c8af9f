use Rattle.std.proofs.Common.{◌≡◌, ℕ, ◌+◌, ◌-◌, ◌<◌, ◌≤◌, true, slice_index_or}
use Rattle.std.specs.FinSet as sets
use Rattle.fy_policy.specs.Counted.{passing}
use Rattle.fy_policy.specs.Sat.{satisfies}
use Rattle.fy_policy.specs.Shape.{tree_of}
use Rattle.fy_policy.specs.Tree.{IsWellFormed}
use Rattle.fy_policy.specs.declared.shape.Shape.{Shape}
use Rattle.fy_policy.proofs.Counts.{number_of}
use Rattle.fy_policy.proofs.satisfaction.+satisfaction.Given as goal

-- those found, and those still to find, are all; and those found are too few
abbrev pub invariant-has_values-loop-p : goal.invariant-has_values-loop-p
invariant-has_values-loop-p l = record {
  fits : l.found ≤ l.wanted - 1;
  counts : 1 ≤ l.wanted → IsWellFormed (tree_of l.inner) → record {
    all : l.found + passing l.map l.key (tree_of l.inner) (sets.contains l.rest) ≡ passing l.map l.key (tree_of l.inner) (sets.contains l.set);
    few : l.found < l.wanted;
  };
}

abbrev pub decreases-has_values-loop-p : goal.decreases-has_values-loop-p
decreases-has_values-loop-p l = number_of (sets.contains l.rest) 1024

-- the parts so far are satisfied
abbrev pub invariant-shape_satisfied-loop-part : goal.invariant-shape_satisfied-loop-part
invariant-shape_satisfied-loop-part l = IsWellFormed (tree_of l.shape) → (k : ℕ) (d : Shape) → k < l.part-index → satisfies l.map (tree_of (slice_index_or l.part-items k d)) (sets.contains l.set) ≡ true
