use Rattle.fy_worked.proofs.Cut.{third, second, half, earlier}
use Rattle.fy_worked.proofs.laws.cut.three_lines.Goals as goal

pub returns-clause-third : goal.returns-clause-third
returns-clause-third c = third

pub returns-clause-second : goal.returns-clause-second
returns-clause-second c = second

pub returns-clause-half : goal.returns-clause-half
returns-clause-half c = half

pub returns-clause-earlier : goal.returns-clause-earlier
returns-clause-earlier c = earlier
