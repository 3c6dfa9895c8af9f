use Rattle.fy_cluster.proofs.Starting.{GivenUpTo}
use Rattle.fy_cluster.proofs.opening.give_all.Given as goal

abbrev pub invariant-loop-grant : goal.invariant-loop-grant
invariant-loop-grant l = GivenUpTo l.initial.book l.book l.grants l.grant-index
