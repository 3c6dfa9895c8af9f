use Rattle.fy_laws.proofs.Stores.{unasked}
use Rattle.fy_laws.proofs.laws.stores.died_unasked.Goals as goal

pub returns : goal.returns
returns c = unasked c.test_is_satisfaction.ensures
