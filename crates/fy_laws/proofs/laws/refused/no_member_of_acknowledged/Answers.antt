use Rattle.std.proofs.Common.{refl}
use Rattle.fy_laws.specs.Clusters.{six}
use Rattle.fy_laws.specs.Refused.{no_member_of_acknowledged}
use Rattle.fy_laws.proofs.Played.{legal_by_acts, cluster_on_literals}
use Rattle.fy_laws.proofs.laws.refused.no_member_of_acknowledged.Goals as goal

pub returns-clause-legal : goal.returns-clause-legal
unfolding cluster_on_literals
returns-clause-legal c = legal_by_acts six no_member_of_acknowledged refl refl
