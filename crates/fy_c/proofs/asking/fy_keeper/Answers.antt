use Rattle.std.proofs.Common.{◌∙◌, ap}
use Rattle.fy_cluster.specs.Execution.{Execution, history_of}
use Rattle.fy_cluster.specs.History.{keeper}
use Rattle.fy_c.specs.Numbers.{process_number}
use Rattle.fy_c.proofs.asking.fy_keeper.Goals as goal

pub returns-clause-keeper : goal.returns-clause-keeper
returns-clause-keeper c =
    c.process_number.ensures
    ∙ ap process_number
    (c.keeper.ensures.keeper
    ∙ ap (λ (it : Execution). keeper it.setup (history_of it) c.args.rec) c.cluster.ensures.value)
