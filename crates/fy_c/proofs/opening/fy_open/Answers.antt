use Rattle.fy_c.specs.Opening.{Opens}
use Rattle.fy_c.proofs.Placed.{placed_over}
use Rattle.fy_c.proofs.opening.fy_open.Goals as goal

pub returns : goal.returns
returns c =
    placed_over (Opens c.args.config.now) c.open.result c.put.result c.args.guard.now c.put.new.place
    c.open.ensures.opened c.open.ensures.refused c.put.ensures.answer c.put.ensures.put
    c.put.ensures.kept
