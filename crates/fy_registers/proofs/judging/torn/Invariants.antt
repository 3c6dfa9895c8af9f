use Rattle.fy_registers.proofs.Rows.{RowSoFar}
use Rattle.fy_registers.proofs.judging.torn.Given as goal

-- the zones so far may stand in a row
abbrev pub invariant-loop-i : goal.invariant-loop-i
invariant-loop-i l = RowSoFar l.zones l.i l.latest
