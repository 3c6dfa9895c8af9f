use Rattle.fy_locality.proofs.Lowest.{HasLowest}
use Rattle.fy_locality.proofs.process_set.ProcSet.below.Given as goal

abbrev pub invariant-loop-k : goal.invariant-loop-k
invariant-loop-k l = HasLowest l.count l.k l.words
