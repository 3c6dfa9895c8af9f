use Rattle.fy_locality.proofs.Merging.{IsMerged, bit_and_not}
use Rattle.fy_locality.proofs.process_set.ProcSet.difference.Given as goal

abbrev pub invariant-loop-k : goal.invariant-loop-k
invariant-loop-k l = IsMerged bit_and_not l.initial.words l.other-inside.words l.k l.words
