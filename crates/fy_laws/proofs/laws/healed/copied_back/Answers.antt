use Rattle.std.proofs.Common.{refl}
use Rattle.fy_laws.specs.Clusters.{six}
use Rattle.fy_laws.specs.Healed.{copied_back}
use Rattle.fy_laws.proofs.Played.{legal_by_acts, cluster_on_literals}
use Rattle.fy_laws.proofs.laws.healed.copied_back.Goals as goal

pub returns-clause-legal : goal.returns-clause-legal
unfolding cluster_on_literals
returns-clause-legal c = legal_by_acts six copied_back refl refl
