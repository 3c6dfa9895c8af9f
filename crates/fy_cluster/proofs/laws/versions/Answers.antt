use Rattle.fy_cluster.proofs.Journals.{second_knows_all, next_legal_under}
use Rattle.fy_cluster.proofs.laws.versions.Goals as goal

pub returns-clause-second : goal.returns-clause-second
returns-clause-second c = second_knows_all

pub returns-clause-next : goal.returns-clause-next
returns-clause-next c = next_legal_under
