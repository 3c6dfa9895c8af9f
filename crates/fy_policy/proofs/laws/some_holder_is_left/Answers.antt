use Rattle.fy_policy.proofs.Left.{holder_left}
use Rattle.fy_policy.proofs.laws.some_holder_is_left.Goals as goal

pub returns : goal.returns
returns c = holder_left
