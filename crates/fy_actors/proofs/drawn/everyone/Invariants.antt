use Rattle.std.proofs.Common.{◌≡◌, ◌≤◌, map, length}
use Rattle.std.specs.List.{range_with_len}
use Rattle.fy_actors.proofs.drawn.everyone.Given as goal

abbrev pub invariant-loop-p : goal.invariant-loop-p
invariant-loop-p l =
    (l.all.items ≡ map (λ p. record { 0 = p }) (range_with_len 0 l.p)) × (l.p ≤ length l.map)
