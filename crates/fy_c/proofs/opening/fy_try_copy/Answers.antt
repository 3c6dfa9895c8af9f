use Rattle.std.proofs.Common.{subst}
use Rattle.fy_c.specs.Opening.{Copies}
use Rattle.fy_c.specs.Statuses.{Answers}
use Rattle.fy_c.proofs.Placed.{placed_over}
use Rattle.fy_c.proofs.opening.fy_try_copy.Goals as goal

pub returns-clause-copied : goal.returns-clause-copied
returns-clause-copied c =
    let old = c.args.other.now in
    subst (λ value. Answers c.put.result (Copies value old c.put.new.place)) c.cluster.ensures.value
    (placed_over (Copies c.cluster.result.now) c.copied.result c.put.result old c.put.new.place
    c.copied.ensures.copied c.copied.ensures.memory c.put.ensures.answer c.put.ensures.put
    c.put.ensures.kept)
