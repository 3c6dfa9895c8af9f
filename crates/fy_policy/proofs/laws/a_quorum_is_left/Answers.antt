use Rattle.fy_policy.proofs.Left.{quorum_left}
use Rattle.fy_policy.proofs.laws.a_quorum_is_left.Goals as goal

pub returns : goal.returns
returns c = quorum_left
