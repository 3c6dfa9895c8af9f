use Rattle.std.proofs.Common.{refl}
use Rattle.fy_laws.specs.Targets.{data_centers, by_machine_and_data_center}
use Rattle.fy_laws.proofs.Played.{legal_by_acts, cluster_on_literals}
use Rattle.fy_laws.proofs.laws.targets.by_machine_and_data_center.Goals as goal

pub returns-clause-legal : goal.returns-clause-legal
unfolding cluster_on_literals
returns-clause-legal c = legal_by_acts data_centers by_machine_and_data_center refl refl
