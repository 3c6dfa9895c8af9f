use Rattle.std.proofs.Common.{◌≡◌, ℕ, ◌<◌, false, slice_index_or}
use Rattle.fy_policy.specs.declared.shape.Shape.{Shape}
use Rattle.fy_policy.specs.Shape.{tree_of}
use Rattle.fy_bears.specs.Warnings.{names}
use Rattle.fy_bears.proofs.text.warnings.+names.Given as goal

-- no part so far names the key
abbrev pub invariant-loop-part : goal.invariant-loop-part
invariant-loop-part l =
    (k : ℕ) (d : Shape) → k < l.part-index
    → names l.key (tree_of (slice_index_or l.part-items k d)) ≡ false
