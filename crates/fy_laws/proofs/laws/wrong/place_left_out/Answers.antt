use Rattle.fy_laws.proofs.Illegal.{place_left_out}
use Rattle.fy_laws.proofs.laws.wrong.place_left_out.Goals as goal

pub returns : goal.returns
returns c = place_left_out
