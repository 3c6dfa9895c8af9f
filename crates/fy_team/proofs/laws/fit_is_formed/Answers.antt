use Rattle.fy_team.proofs.Rising.{fit-IsFormed}
use Rattle.fy_team.proofs.laws.fit_is_formed.Goals as goal

pub returns : goal.returns
returns c = fit-IsFormed c.test_is_satisfaction.ensures
