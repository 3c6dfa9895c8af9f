use Rattle.std.proofs.Common.{◌≤◌, length, take}
use Rattle.fy_registers.specs.Zones.{HasRoom}
use Rattle.fy_registers.proofs.zone.value_count.Given as goal

-- the values so far are below the count
abbrev pub invariant-loop-operation : goal.invariant-loop-operation
invariant-loop-operation l = HasRoom (take l.operation-index l.operations) l.count × (l.count ≤ length l.operations)
