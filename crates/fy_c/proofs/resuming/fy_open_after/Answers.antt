use Rattle.fy_c.specs.Resuming.{OpensAfter}
use Rattle.fy_c.proofs.Placed.{placed_over}
use Rattle.fy_c.proofs.resuming.fy_open_after.Goals as goal

pub returns : goal.returns
returns c =
    placed_over
    (λ old new. OpensAfter c.args.config.now c.args.audit.now old new c.open_after.new.first_bad)
    c.open_after.result c.put.result c.args.guard.now c.put.new.place c.open_after.ensures.opened
    c.open_after.ensures.refused c.put.ensures.answer c.put.ensures.put c.put.ensures.kept
