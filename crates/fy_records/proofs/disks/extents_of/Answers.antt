use Rattle.std.proofs.Common.{arith}
use Rattle.fy_records.proofs.Extents.{extents_more}
use Rattle.fy_records.proofs.disks.extents_of.Goals as goal

pub loop-line-preserved : goal.loop-line-preserved
loop-line-preserved c =
    extents_more c.args.lines.now c.loop-line.line-index _ c.args.processes _ _ (omega arith) c.note.ensures.long c.note.ensures.other c.note.ensures.here c.loop-line.invariant
