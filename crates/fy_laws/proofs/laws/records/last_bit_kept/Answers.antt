use Rattle.std.proofs.Common.{refl}
use Rattle.fy_laws.specs.Clusters.{four_of_one}
use Rattle.fy_laws.specs.Records.{last_bit_kept}
use Rattle.fy_laws.proofs.Played.{legal_by_acts, cluster_on_literals}
use Rattle.fy_laws.proofs.laws.records.last_bit_kept.Goals as goal

pub returns-clause-legal : goal.returns-clause-legal
unfolding cluster_on_literals
returns-clause-legal c = legal_by_acts four_of_one last_bit_kept refl refl
