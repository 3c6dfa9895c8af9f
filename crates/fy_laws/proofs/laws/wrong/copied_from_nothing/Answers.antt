use Rattle.fy_laws.proofs.Illegal.{copied_from_nothing}
use Rattle.fy_laws.proofs.laws.wrong.copied_from_nothing.Goals as goal

pub returns : goal.returns
returns c = copied_from_nothing
