use Rattle.std.proofs.Common.{length}
use Rattle.fy_records.specs.Found.{AreGathered}
use Rattle.fy_records.proofs.Lacking.{LackersSoFar}
use Rattle.fy_records.proofs.evidence.lackers_among.Given as goal

abbrev pub invariant-loop-rest : goal.invariant-loop-rest
invariant-loop-rest l = record {
  so_far : LackersSoFar l.written l.reads l.rest l.lackers.items;
  gathered : AreGathered l.rest;
}

abbrev pub decreases-loop-rest : goal.decreases-loop-rest
decreases-loop-rest l = length l.rest
