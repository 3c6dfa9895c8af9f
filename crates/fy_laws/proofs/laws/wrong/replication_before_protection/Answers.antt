use Rattle.fy_laws.proofs.Illegal.{replication_before_protection}
use Rattle.fy_laws.proofs.laws.wrong.replication_before_protection.Goals as goal

pub returns : goal.returns
returns c = replication_before_protection
