use Rattle.fy_policy.proofs.Walk.{passing-none}
use Rattle.fy_policy.proofs.laws.nobody_passes.Goals as goal

pub returns : goal.returns
returns c = passing-none
