use Rattle.fy_laws.proofs.Stores.{healed_rightly}
use Rattle.fy_laws.proofs.laws.stores.healed_beside_two.Goals as goal

pub returns : goal.returns
returns c = healed_rightly
