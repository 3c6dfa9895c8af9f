use Rattle.fy_worked.proofs.Cut.{longest, longer}
use Rattle.fy_worked.proofs.laws.cut.at_the_limit.Goals as goal

pub returns-clause-longest : goal.returns-clause-longest
returns-clause-longest c = longest

pub returns-clause-longer : goal.returns-clause-longer
returns-clause-longer c = longer
