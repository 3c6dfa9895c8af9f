use Rattle.fy_cluster.specs.History.{clog_end}
use Rattle.fy_cluster.proofs.Targets.{VisitsClogs}
use Rattle.fy_cluster.proofs.clogs.clog_targets.Given as goal

abbrev pub invariant-loop-p : goal.invariant-loop-p
invariant-loop-p l = VisitsClogs l.targets l.p-iterator (clog_end l.ticks) l.initial.net l.net
