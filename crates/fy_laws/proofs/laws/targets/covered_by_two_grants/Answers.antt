use Rattle.std.proofs.Common.{refl}
use Rattle.fy_laws.specs.Targets.{data_centers, covered_by_two_grants}
use Rattle.fy_laws.proofs.Played.{legal_by_acts, cluster_on_literals}
use Rattle.fy_laws.proofs.laws.targets.covered_by_two_grants.Goals as goal

pub returns-clause-legal : goal.returns-clause-legal
unfolding cluster_on_literals
returns-clause-legal c = legal_by_acts data_centers covered_by_two_grants refl refl
