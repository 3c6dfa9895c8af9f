use Rattle.fy_cluster.specs.History.{unclog_end}
use Rattle.fy_cluster.proofs.Targets.{VisitsClogs}
use Rattle.fy_cluster.proofs.clogs.unclog_targets.Given as goal

abbrev pub invariant-loop-p : goal.invariant-loop-p
invariant-loop-p l = VisitsClogs l.targets l.p-iterator unclog_end l.initial.net l.net
