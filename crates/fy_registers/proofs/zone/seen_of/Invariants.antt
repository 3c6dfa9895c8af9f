use Rattle.fy_registers.proofs.Seeing.{SeenSoFar}
use Rattle.fy_registers.proofs.zone.seen_of.Given as goal

-- the table shows the operations so far
abbrev pub invariant-loop-operation : goal.invariant-loop-operation
invariant-loop-operation l = SeenSoFar l.operations l.operation-index l.table.items
