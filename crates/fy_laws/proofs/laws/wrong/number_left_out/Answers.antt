use Rattle.fy_laws.proofs.Illegal.{number_left_out}
use Rattle.fy_laws.proofs.laws.wrong.number_left_out.Goals as goal

pub returns : goal.returns
returns c = number_left_out
