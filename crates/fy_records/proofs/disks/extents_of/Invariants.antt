use Rattle.std.proofs.Common.{take}
use Rattle.fy_records.specs.Founds.{AreExtents}
use Rattle.fy_records.proofs.disks.extents_of.Given as goal

abbrev pub invariant-loop-line : goal.invariant-loop-line
invariant-loop-line l = AreExtents (take l.line-index l.lines) l.processes l.extents.items
