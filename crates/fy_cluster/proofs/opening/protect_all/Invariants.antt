use Rattle.fy_cluster.proofs.Starting.{ProtectedUpTo}
use Rattle.fy_cluster.proofs.opening.protect_all.Given as goal

abbrev pub invariant-loop-protection : goal.invariant-loop-protection
invariant-loop-protection l = ProtectedUpTo l.initial.book l.book l.protections l.protection-index
