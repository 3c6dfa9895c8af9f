use Rattle.fy_laws.proofs.MetPolicy.{four_is_met}
use Rattle.fy_laws.proofs.laws.every.four_is_met.Goals as goal

pub returns : goal.returns
returns c = four_is_met
