use Rattle.std.proofs.Common.{◌∙◌}
use Rattle.std.proofs.lemmas.Result.{IfOk-weaker}
use Rattle.fy_check.proofs.sink.ReplayerSink.enter.Goals as goal

pub returns : goal.returns
returns c =
    IfOk-weaker c.enter.result _ _
    (λ _ entered begun so_far has. (entered begun.execution.setup so_far has.0, c.enter.ensures.version ∙ has.1))
    c.enter.ensures.entered
