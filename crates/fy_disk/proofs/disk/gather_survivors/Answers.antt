use Rattle.std.proofs.Common.{◌<◌, length, sym, ◌∙◌, arith}
use Rattle.fy_disk.proofs.Survivors.{gathered_past, gathered_kept, gathered_done}
use Rattle.fy_disk.proofs.disk.gather_survivors.Goals.{then-outlives_crash, else-outlives_crash}
use Rattle.fy_disk.proofs.disk.gather_survivors.Goals as goal

pub loop-at-preserved : goal.loop-at-preserved
loop-at-preserved c =
    let within : c.loop-at.at < length c.loop-at.items = omega arith in
    elim c.if-outlives_crash.branch [
      | then-outlives_crash w ↦ rw (w.items-is, w.kept-is) (gathered_kept _ _ _ _ _ _ c.loop-at.invariant within (sym c.outlives_crash.ensures ∙ w.if-outlives_crash.true) w.swap.ensures.by_index)
      | else-outlives_crash w ↦ rw (w.items-is, w.kept-is) (gathered_past _ _ _ _ _ c.loop-at.invariant within (sym c.outlives_crash.ensures ∙ w.if-outlives_crash.false))
    ]

pub returns-clause-survivors : goal.returns-clause-survivors
returns-clause-survivors c =
    gathered_done _ _ _ _ _ c.loop-at.invariant (omega arith)
