use Rattle.fy_laws.proofs.Illegal.{replication_before_grant}
use Rattle.fy_laws.proofs.laws.wrong.replication_before_grant.Goals as goal

pub returns : goal.returns
returns c = replication_before_grant
