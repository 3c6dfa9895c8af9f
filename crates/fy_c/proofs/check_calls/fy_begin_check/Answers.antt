use Rattle.fy_c.specs.Checking.{BeginsCheck}
use Rattle.fy_c.proofs.Placed.{placed_over}
use Rattle.fy_c.proofs.check_calls.fy_begin_check.Goals as goal

pub returns : goal.returns
returns c =
    placed_over (BeginsCheck c.args.config.now) c.begun.result c.put.result c.args.check.now
    c.put.new.place c.begun.ensures.begun c.begun.ensures.refused c.put.ensures.answer
    c.put.ensures.put c.put.ensures.kept
