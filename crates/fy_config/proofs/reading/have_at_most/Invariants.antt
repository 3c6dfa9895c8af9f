use Rattle.std.proofs.Common.{◌≡◌, ◌+◌, drop, length, sum_by}
use Rattle.fy_config.proofs.reading.have_at_most.Given as goal

-- what is left of the room, and the grants of the actors so far
abbrev pub invariant-loop-actor : goal.invariant-loop-actor
invariant-loop-actor l =
    l.left + sum_by (λ actor. length actor.grants.items) l.actors
    ≡ l.most + sum_by (λ actor. length actor.grants.items) (drop l.actor-index l.actors)
