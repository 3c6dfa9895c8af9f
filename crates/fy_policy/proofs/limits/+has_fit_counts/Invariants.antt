use Rattle.std.proofs.Common.{ℕ, ◌<◌, slice_index_or}
use Rattle.fy_policy.specs.declared.shape.Shape.{Shape}
use Rattle.fy_policy.proofs.Bounds.{Fit}
use Rattle.fy_policy.proofs.limits.+has_fit_counts.Given as goal

-- the parts so far have fit counts
abbrev pub invariant-loop-part : goal.invariant-loop-part
invariant-loop-part l = (k : ℕ) (d : Shape) → k < l.part-index → Fit (slice_index_or l.part-items k d)
