use Rattle.fy_cluster.proofs.Acknowledging as by
use Rattle.fy_cluster.proofs.laws.acknowledged_by_reply.Goals as goal

pub returns : goal.returns
returns c = by.acknowledged_by_reply
