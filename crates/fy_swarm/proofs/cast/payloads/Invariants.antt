use Rattle.std.proofs.Common.{◌≡◌, ◌∷◌, [], ◌≤◌, map}
use Rattle.std.specs.List.{range_with_len}
use Rattle.fy_swarm.proofs.cast.payloads.Given as goal

abbrev pub invariant-loop-byte : goal.invariant-loop-byte
invariant-loop-byte l =
    (l.made.items ≡ map (λ byte. byte ∷ []) (range_with_len 0 l.byte)) × (l.byte ≤ 4)
