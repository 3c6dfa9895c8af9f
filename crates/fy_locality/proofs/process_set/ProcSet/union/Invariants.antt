use Rattle.std.specs.Prelude.{bit_or}
use Rattle.fy_locality.proofs.Merging.{IsMerged}
use Rattle.fy_locality.proofs.process_set.ProcSet.union.Given as goal

abbrev pub invariant-loop-k : goal.invariant-loop-k
invariant-loop-k l = IsMerged bit_or l.initial.words l.other-inside.words l.k l.words
