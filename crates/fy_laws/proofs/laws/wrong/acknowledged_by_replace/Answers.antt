use Rattle.fy_laws.proofs.Illegal.{acknowledged_by_replace}
use Rattle.fy_laws.proofs.laws.wrong.acknowledged_by_replace.Goals as goal

pub returns : goal.returns
returns c = acknowledged_by_replace
