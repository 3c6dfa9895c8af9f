use Rattle.std.proofs.Common.{◌≡◌, replicate}
use Rattle.fy_disk.specs.Disk.{empty_disk}
use Rattle.fy_disk.proofs.disks.blank_disks.Given as goal

abbrev pub invariant-loop-process : goal.invariant-loop-process
invariant-loop-process l = l.disks.items ≡ replicate l._process empty_disk
