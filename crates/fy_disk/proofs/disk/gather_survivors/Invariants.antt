use Rattle.fy_disk.specs.Disk.{outlives}
use Rattle.fy_disk.proofs.Survivors.{GatheredSoFar}
use Rattle.fy_disk.proofs.disk.gather_survivors.Given as goal

abbrev pub invariant-loop-at : goal.invariant-loop-at
invariant-loop-at l = GatheredSoFar (outlives l.tear) l.initial.items l.items l.kept l.at
