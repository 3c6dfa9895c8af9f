use Rattle.fy_laws.proofs.Illegal.{copied_while_down}
use Rattle.fy_laws.proofs.laws.wrong.copied_while_down.Goals as goal

pub returns : goal.returns
returns c = copied_while_down
