use Rattle.std.specs.Prelude.{bit_and}
use Rattle.fy_locality.proofs.Merging.{IsMerged}
use Rattle.fy_locality.proofs.process_set.ProcSet.intersection.Given as goal

abbrev pub invariant-loop-k : goal.invariant-loop-k
invariant-loop-k l = IsMerged bit_and l.initial.words l.other-inside.words l.k l.words
