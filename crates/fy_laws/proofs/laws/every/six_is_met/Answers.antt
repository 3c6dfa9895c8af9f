use Rattle.fy_laws.proofs.MetPolicy.{six_is_met}
use Rattle.fy_laws.proofs.laws.every.six_is_met.Goals as goal

pub returns : goal.returns
returns c = six_is_met
