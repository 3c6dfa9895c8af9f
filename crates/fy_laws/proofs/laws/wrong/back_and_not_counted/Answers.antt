use Rattle.fy_laws.proofs.Illegal.{back_and_not_counted}
use Rattle.fy_laws.proofs.laws.wrong.back_and_not_counted.Goals as goal

pub returns : goal.returns
returns c = back_and_not_counted
