use Rattle.fy_laws.proofs.Stores.{emptied}
use Rattle.fy_laws.proofs.laws.stores.last_holder_emptied.Goals as goal

pub returns : goal.returns
returns c = emptied
