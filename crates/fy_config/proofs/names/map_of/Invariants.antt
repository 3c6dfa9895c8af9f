use Rattle.fy_config.proofs.Mapped.{Mapped}
use Rattle.fy_config.proofs.names.map_of.Given as goal

-- the processes so far are in the map
abbrev pub invariant-loop-index : goal.invariant-loop-index
invariant-loop-index l = Mapped l.given l.map l.index
