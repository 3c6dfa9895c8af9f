use Rattle.fy_shared.proofs.Parting.{Playing}
use Rattle.fy_shared.proofs.posts.take_turns.Given as goal

-- so many turns were taken, and the actor has kept to its part
abbrev pub invariant-loop-turn : goal.invariant-loop-turn
invariant-loop-turn g l =
    Playing l.fn.shared l.turn l.initial.seat l.seat
    ((goal.FaultActor-dyn g (l.initial.actor.vtable, l.initial.actor.value)).part
    l.initial.actor.value)
    ((goal.FaultActor-dyn g (l.actor.vtable, l.actor.value)).part l.actor.value)
