use Rattle.std.proofs.Common.{◌≡◌, take}
use Rattle.fy_cluster.specs.Survival.{Survives}
use Rattle.fy_cluster.specs.Execution.{after_acts}
use Rattle.fy_cluster.proofs.cluster.Cluster.run.Given as goal

abbrev pub invariant-loop-by : goal.invariant-loop-by
invariant-loop-by l = (l.self ≡ after_acts l.initial.self (take l.by-index l.acts)) × Survives l.self.setup l.self.journal
