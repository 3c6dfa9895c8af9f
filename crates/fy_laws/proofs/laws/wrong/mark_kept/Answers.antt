use Rattle.fy_laws.proofs.Illegal.{mark_kept}
use Rattle.fy_laws.proofs.laws.wrong.mark_kept.Goals as goal

pub returns : goal.returns
returns c = mark_kept
