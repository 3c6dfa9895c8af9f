use Rattle.fy_registers.proofs.Repeating.{AreAlone}
use Rattle.fy_registers.proofs.zone.repeated.Given as goal

-- each write so far is the one that the table has
abbrev pub invariant-loop-operation : goal.invariant-loop-operation
invariant-loop-operation l = AreAlone l.operations l.operation-index l.table
