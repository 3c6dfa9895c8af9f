use Rattle.std.proofs.Common.{ℕ, Bool}
use Rattle.std.specs.FinSet as sets
use Rattle.fy_policy.specs.Counted.{tree_of_node, AreCountersAt, CanToggle}
use Rattle.fy_policy.proofs.Counts.{number_of}
use Rattle.fy_policy.proofs.Toggling.{Halfway}
use Rattle.fy_policy.proofs.node.+satisfied_after_toggle.Given as goal

-- the processes of some values came or went, and those of the others are the rest
abbrev pub invariant-loop-p : goal.invariant-loop-p
invariant-loop-p l = (at : ℕ → ℕ) (s : ℕ → Bool) → AreCountersAt l.map at s l.group l.node → CanToggle l.map at l.group s (sets.contains l.those) l.joins
    → Halfway l.map at l.group s l.key (tree_of_node l.inner.value) (sets.contains l.those) l.joins (sets.contains l.rest) l.count

abbrev pub decreases-loop-p : goal.decreases-loop-p
decreases-loop-p l = number_of (sets.contains l.rest) 1024
