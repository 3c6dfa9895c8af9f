use Rattle.fy_spelling.proofs.OneLine.{line_once}
use Rattle.fy_spelling.proofs.laws.lines_are_unambiguous.Goals as goal

pub returns : goal.returns
returns c = line_once
