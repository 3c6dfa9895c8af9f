use Rattle.std.proofs.Common.{refl}
use Rattle.fy_laws.specs.Clusters.{four_of_one}
use Rattle.fy_laws.specs.Records.{weakened_and_torn}
use Rattle.fy_laws.proofs.Played.{legal_by_acts, cluster_on_literals}
use Rattle.fy_laws.proofs.laws.records.weakened_and_torn.Goals as goal

pub returns-clause-legal : goal.returns-clause-legal
unfolding cluster_on_literals
returns-clause-legal c = legal_by_acts four_of_one weakened_and_torn refl refl
