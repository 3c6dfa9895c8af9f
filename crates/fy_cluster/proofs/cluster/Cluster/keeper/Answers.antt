use Rattle.std.proofs.Common.{◌∙◌, ap}
use Rattle.fy_cluster.specs.Execution.{Execution, history_of}
use Rattle.fy_cluster.specs.History.{keeper}
use Rattle.fy_cluster.proofs.cluster.Cluster.keeper.Goals as goal

pub returns-clause-keeper : goal.returns-clause-keeper
returns-clause-keeper c =
    c.keeper.ensures.keeper ∙ ap (λ (execution : Execution). keeper execution.setup (history_of execution) c.args.rec) c.self.view_is
