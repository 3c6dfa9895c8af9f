use Rattle.std.proofs.Common.{refl}
use Rattle.fy_laws.specs.Clusters.{six}
use Rattle.fy_laws.specs.Records.{second_team}
use Rattle.fy_laws.proofs.Played.{legal_by_acts, cluster_on_literals}
use Rattle.fy_laws.proofs.laws.records.second_team.Goals as goal

pub returns-clause-legal : goal.returns-clause-legal
unfolding cluster_on_literals
returns-clause-legal c = legal_by_acts six second_team refl refl
