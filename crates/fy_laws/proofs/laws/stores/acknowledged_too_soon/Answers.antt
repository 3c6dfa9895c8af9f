use Rattle.fy_laws.proofs.Stores.{too_soon}
use Rattle.fy_laws.proofs.laws.stores.acknowledged_too_soon.Goals as goal

pub returns : goal.returns
returns c = too_soon c.test_is_satisfaction.ensures
