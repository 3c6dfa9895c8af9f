use Rattle.fy_config.proofs.Protected.{Protected}
use Rattle.fy_config.proofs.names.protections_of.Given as goal

-- the protections so far are there, and their processes are named
abbrev pub invariant-loop-index : goal.invariant-loop-index
invariant-loop-index l = Protected l.map l.given l.protections.items l.named l.index
