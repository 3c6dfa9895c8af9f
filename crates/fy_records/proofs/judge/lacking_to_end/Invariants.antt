use Rattle.std.proofs.Common.{length}
use Rattle.fy_records.specs.Found.{AreGathered}
use Rattle.fy_records.proofs.Chunks.{NoneSoFar}
use Rattle.fy_records.proofs.judge.lacking_to_end.Given as goal

abbrev pub invariant-loop-rest : goal.invariant-loop-rest
invariant-loop-rest l = record {
  so_far : NoneSoFar l.written l.test l.reads l.rest;
  gathered : AreGathered l.rest;
}

abbrev pub decreases-loop-rest : goal.decreases-loop-rest
decreases-loop-rest l = length l.rest
