use Rattle.std.proofs.Common.{◌≡◌, MatchOption}
use Rattle.fy_policy.specs.Counted.{group_at}
use Rattle.fy_policy.specs.Shape.{tree_of}
use Rattle.fy_policy.specs.Tree.{IsWellFormed}
use Rattle.fy_policy.proofs.Planting.{AreJoined}
use Rattle.fy_policy.proofs.build_counters.+build_counters.Given as goal

abbrev pub decreases-build_counters : goal.decreases-build_counters
decreases-build_counters l = goal.size-build_counters l

-- the counted trees of the parts so far are joined
abbrev pub invariant-loop-part : goal.invariant-loop-part
invariant-loop-part l = IsWellFormed (tree_of l.shape) → MatchOption l.so_far (l.part-index ≡ 0) (λ node. AreJoined l.map (group_at l.places) l.part-items l.part-index node)
