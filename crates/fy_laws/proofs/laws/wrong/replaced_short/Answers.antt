use Rattle.fy_laws.proofs.Illegal.{replaced_short}
use Rattle.fy_laws.proofs.laws.wrong.replaced_short.Goals as goal

pub returns : goal.returns
returns c = replaced_short
