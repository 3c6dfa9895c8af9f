use Rattle.fy_worked.proofs.Three.{bears, fewer}
use Rattle.fy_worked.proofs.laws.tolerated.three_zones.Goals as goal

pub returns-clause-bears : goal.returns-clause-bears
returns-clause-bears c = bears c.test_is_satisfaction.ensures

pub returns-clause-fewer : goal.returns-clause-fewer
returns-clause-fewer c = fewer
