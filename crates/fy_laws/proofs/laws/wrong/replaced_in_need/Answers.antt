use Rattle.fy_laws.proofs.Illegal.{replaced_in_need}
use Rattle.fy_laws.proofs.laws.wrong.replaced_in_need.Goals as goal

pub returns : goal.returns
returns c = replaced_in_need
