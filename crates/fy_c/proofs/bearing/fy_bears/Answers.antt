use Rattle.std.proofs.Common.{subst}
use Rattle.fy_c.specs.Bearing.{Bears}
use Rattle.fy_c.specs.Statuses.{Answers}
use Rattle.fy_c.proofs.Placed.{placed_over}
use Rattle.fy_c.proofs.bearing.fy_bears.Goals as goal

pub returns-clause-borne : goal.returns-clause-borne
returns-clause-borne c =
    let old = c.args.borne.now in
    subst (λ value. Answers c.put.result (Bears value old c.put.new.place)) c.cluster.ensures.value
    (placed_over (Bears c.cluster.result.now) c.borne_in.result c.put.result old c.put.new.place
    c.borne_in.ensures.borne c.borne_in.ensures.memory c.put.ensures.answer c.put.ensures.put
    c.put.ensures.kept)
