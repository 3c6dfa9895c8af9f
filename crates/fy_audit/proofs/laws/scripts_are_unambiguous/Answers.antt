use Rattle.fy_audit.proofs.Ones.{script_once}
use Rattle.fy_audit.proofs.laws.scripts_are_unambiguous.Goals as goal

pub returns : goal.returns
returns c = script_once c.lines_are_unambiguous.ensures
