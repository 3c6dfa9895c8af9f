use Rattle.fy_holders.specs.Turns.{AreEmpty}
use Rattle.fy_holders.proofs.turns.no_turns.Given as goal

abbrev pub invariant-loop : goal.invariant-loop
invariant-loop l = AreEmpty l.counter l.turns.items
