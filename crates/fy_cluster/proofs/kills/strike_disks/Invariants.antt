use Rattle.fy_disk.specs.Disk.{empty_disk}
use Rattle.fy_cluster.specs.Standing.{disk_after_strike}
use Rattle.fy_cluster.proofs.Targets.{Visits}
use Rattle.fy_cluster.proofs.kills.strike_disks.Given as goal

abbrev pub invariant-loop-p : goal.invariant-loop-p
invariant-loop-p l = Visits l.targets l.p-iterator (disk_after_strike l.kind l.tear) empty_disk l.initial.disks l.disks
