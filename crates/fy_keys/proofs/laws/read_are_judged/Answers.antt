use Rattle.fy_keys.proofs.Judging.{read_are_judged}
use Rattle.fy_keys.proofs.laws.read_are_judged.Goals as goal

pub returns : goal.returns
returns c = read_are_judged
