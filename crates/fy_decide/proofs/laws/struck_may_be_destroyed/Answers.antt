use Rattle.fy_decide.proofs.Judging.{struck_may}
use Rattle.fy_decide.proofs.laws.struck_may_be_destroyed.Goals as goal

pub returns : goal.returns
returns c = struck_may c.test_is_satisfaction.ensures
