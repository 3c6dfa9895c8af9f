use Rattle.std.proofs.lemmas.Result.{IfOk-weaker}
use Rattle.fy_swarm.proofs.cast.swizzle.Goals as goal

pub returns : goal.returns
returns c =
    IfOk-weaker c.swizzle.result _ _
    (λ made is. (c.in_ok-plan.plan, c.in_ok-plan.ensures.drawn, is)) c.swizzle.ensures
