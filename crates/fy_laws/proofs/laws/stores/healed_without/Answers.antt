use Rattle.fy_laws.proofs.Stores.{without}
use Rattle.fy_laws.proofs.laws.stores.healed_without.Goals as goal

pub returns : goal.returns
returns c = without c.test_is_satisfaction.ensures
