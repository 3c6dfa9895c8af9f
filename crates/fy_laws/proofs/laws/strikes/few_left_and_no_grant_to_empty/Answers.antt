use Rattle.std.proofs.Common.{refl}
use Rattle.fy_laws.specs.Clusters.{four}
use Rattle.fy_laws.specs.Strikes.{few_left_and_no_grant_to_empty}
use Rattle.fy_laws.proofs.Played.{legal_by_acts, cluster_on_literals}
use Rattle.fy_laws.proofs.laws.strikes.few_left_and_no_grant_to_empty.Goals as goal

pub returns-clause-legal : goal.returns-clause-legal
unfolding cluster_on_literals
returns-clause-legal c = legal_by_acts four few_left_and_no_grant_to_empty refl refl
