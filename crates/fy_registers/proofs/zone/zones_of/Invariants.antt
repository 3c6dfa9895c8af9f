use Rattle.fy_registers.proofs.Zoning.{ZonesSoFar}
use Rattle.fy_registers.proofs.zone.zones_of.Given as goal

-- the zones of the values so far
abbrev pub invariant-loop-value : goal.invariant-loop-value
invariant-loop-value l = ZonesSoFar l.operations l.seen-items l.value l.zones.items
