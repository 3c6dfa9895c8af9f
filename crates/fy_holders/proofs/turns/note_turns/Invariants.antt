use Rattle.std.specs.FinSet as sets
use Rattle.fy_holders.proofs.Noting.{AreNotedBut}
use Rattle.fy_holders.proofs.turns.note_turns.Given as goal

-- those outside the rest have their turn, and the rest has not
abbrev pub invariant-loop-p : goal.invariant-loop-p
invariant-loop-p l = AreNotedBut l.turned l.rest l.position l.initial.turns.items l.turns.items

abbrev pub decreases-loop-p : goal.decreases-loop-p
decreases-loop-p l = sets.len l.rest
