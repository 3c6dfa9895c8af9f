use Rattle.std.proofs.Common.{refl}
use Rattle.fy_laws.specs.Clusters.{six}
use Rattle.fy_laws.specs.Records.{written_and_synced}
use Rattle.fy_laws.proofs.Played.{legal_by_acts, cluster_on_literals}
use Rattle.fy_laws.proofs.laws.versions.both_know_the_earlier_acts.Goals as goal

pub returns-clause-first : goal.returns-clause-first
unfolding cluster_on_literals
returns-clause-first c = record { legal = legal_by_acts six written_and_synced refl refl; known = refl }

pub returns-clause-second : goal.returns-clause-second
unfolding cluster_on_literals
returns-clause-second c = record { legal = legal_by_acts six written_and_synced refl refl; known = refl }
