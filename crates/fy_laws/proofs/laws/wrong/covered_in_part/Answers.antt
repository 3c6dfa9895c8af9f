use Rattle.fy_laws.proofs.Illegal.{covered_in_part}
use Rattle.fy_laws.proofs.laws.wrong.covered_in_part.Goals as goal

pub returns : goal.returns
returns c = covered_in_part
