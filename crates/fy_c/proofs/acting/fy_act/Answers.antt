use Rattle.fy_c.specs.Statuses.{ending}
use Rattle.fy_c.proofs.acting.fy_act.Goals as goal

pub returns-clause-acted : goal.returns-clause-acted
returns-clause-acted c = (ending c.act_into.result, c.number_of.ensures, c.act_into.ensures.acted)
