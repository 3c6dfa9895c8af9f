use Rattle.std.proofs.Common.{◌≡◌, take}
use Rattle.fy_cluster.proofs.trail.Trail.of.Given as goal

-- the entries so far
abbrev pub invariant-loop-entry : goal.invariant-loop-entry
invariant-loop-entry l = l.trail ≡ take l.entry-index l.entries
