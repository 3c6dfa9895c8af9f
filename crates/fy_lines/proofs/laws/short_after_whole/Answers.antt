use Rattle.fy_lines.proofs.FrontLemmas.{AppendsProperPrefix-after}
use Rattle.fy_lines.proofs.laws.short_after_whole.Goals as goal

pub returns : goal.returns
returns c = AppendsProperPrefix-after
