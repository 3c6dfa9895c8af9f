use Rattle.std.proofs.Common.{◌≡◌, ◌+◌, ℕ, length}
use Rattle.std.specs.Prelude.{Some}
use Rattle.std.specs.List.{All}
use Rattle.fy_shared.specs.Yard.{new_seats}
use Rattle.fy_swarm.proofs.Swarming.{AreBack, AreCast}
use Rattle.fy_swarm.proofs.swarm.run_players.OwnLists.{own-1}
use Rattle.fy_swarm.proofs.swarm.run_players.Given as goal

abbrev pub invariant-loop-seat : goal.invariant-loop-seat
invariant-loop-seat g l =
    (i : ℕ) × (left : ℕ) × (i + left ≡ length l.config.roles)
    × (l.seat-iterator.rest.items ≡ new_seats l.shared i left)
    × AreBack l.config.roles l.shared i l.back.items
    × All (λ seat. seat.of ≡ Some l.shared) l.back.items
    × All (λ post. post.seat.of ≡ Some l.shared) l.posts.items
    × AreCast (λ post. post.seat)
    (λ post. (own-1.entry post.actor.vtable).1.part post.actor.value)
    l.config l.seed l.shared i l.posts.items
