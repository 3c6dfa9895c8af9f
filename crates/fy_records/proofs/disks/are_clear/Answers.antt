use Rattle.std.proofs.Common.{arith, ◌∙◌, sym, length}
use Rattle.fy_records.specs.Founds.{is_clear_of}
use Rattle.fy_records.proofs.Extents.{one_fails}
use Rattle.fy_records.proofs.disks.are_clear.Goals as goal

pub returns-then-not-is_clear : goal.returns-then-not-is_clear
returns-then-not-is_clear c =
    one_fails (length c.args.extents.now) c.loop-node.node (is_clear_of c.args.extents.now c.args.founds.now) (omega arith)
    (sym c.is_clear.ensures ∙ c.if-not-is_clear.true)
