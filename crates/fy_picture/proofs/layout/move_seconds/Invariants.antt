use Rattle.fy_picture.proofs.Folding.{SecondsInFront}
use Rattle.fy_picture.proofs.layout.move_seconds.Given as goal

abbrev pub invariant-loop-k : goal.invariant-loop-k
invariant-loop-k l = SecondsInFront l.fn.columns l.k l.columns
