use Rattle.fy_laws.proofs.Illegal.{healed_and_counted}
use Rattle.fy_laws.proofs.laws.wrong.healed_and_counted.Goals as goal

pub returns : goal.returns
returns c = healed_and_counted
