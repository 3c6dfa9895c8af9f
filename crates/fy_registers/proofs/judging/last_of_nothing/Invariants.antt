use Rattle.std.proofs.Common.{take}
use Rattle.fy_registers.specs.Zones.{IsLastOfNothing}
use Rattle.fy_registers.proofs.judging.last_of_nothing.Given as goal

-- the last of the operations so far
abbrev pub invariant-loop-operation : goal.invariant-loop-operation
invariant-loop-operation l = IsLastOfNothing (take l.operation-index l.operations) l.last
