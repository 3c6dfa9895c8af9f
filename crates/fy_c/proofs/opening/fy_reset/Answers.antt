use Rattle.std.proofs.Common.{subst}
use Rattle.fy_c.specs.Opening.{Resets}
use Rattle.fy_c.specs.Statuses.{Answers}
use Rattle.fy_c.proofs.Placed.{placed}
use Rattle.fy_c.proofs.opening.fy_reset.Goals as goal

pub returns-clause-reset : goal.returns-clause-reset
returns-clause-reset c =
    let cluster = c.cluster-cluster.result.now in
    subst (λ old. Answers c.put.result (Resets old c.put.new.place)) c.cluster-cluster.ensures.value
    (placed (Resets cluster) c.fresh.result c.put.result cluster c.put.new.place
    c.fresh.ensures.fresh c.fresh.ensures.memory c.put.ensures.answer c.put.ensures.put
    c.put.ensures.kept)
