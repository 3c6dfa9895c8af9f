use Rattle.fy_laws.proofs.Illegal.{healed_in_need}
use Rattle.fy_laws.proofs.laws.wrong.healed_in_need.Goals as goal

pub returns : goal.returns
returns c = healed_in_need
