use Rattle.std.proofs.Common.{ℕ, ◌<◌, ◌-◌, slice_index_or}
use Rattle.fy_policy.specs.declared.shape.Shape.{Shape}
use Rattle.fy_policy.proofs.Bounds.{Shallow}
use Rattle.fy_policy.proofs.limits.+is_within_depth.Given as goal

-- the parts so far are shallow
abbrev pub invariant-loop-part : goal.invariant-loop-part
invariant-loop-part l = (k : ℕ) (d : Shape) → k < l.part-index → Shallow (l.most - 1) (slice_index_or l.part-items k d)
