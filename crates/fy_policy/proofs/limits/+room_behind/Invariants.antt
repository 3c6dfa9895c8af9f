use Rattle.std.proofs.Common.{◌≡◌, ◌+◌}
use Rattle.fy_policy.proofs.Bounds.{nodes_to}
use Rattle.fy_policy.proofs.limits.+room_behind.Given as goal

-- the nodes so far, this one and what is left are the room
abbrev pub invariant-loop-part : goal.invariant-loop-part
invariant-loop-part l = l.left + nodes_to l.part-items l.part-index + 1 ≡ l.room
