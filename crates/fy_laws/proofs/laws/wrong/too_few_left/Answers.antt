use Rattle.fy_laws.proofs.Illegal.{too_few_left}
use Rattle.fy_laws.proofs.laws.wrong.too_few_left.Goals as goal

pub returns : goal.returns
returns c = too_few_left
