use Rattle.std.proofs.Common.{refl}
use Rattle.std.proofs.lemmas.Bool.{false≢true}
use Rattle.fy_laws.specs.Clusters.{six}
use Rattle.fy_laws.specs.Healed.{destroyed_again}
use Rattle.fy_laws.proofs.Played.{legal_by_acts, cluster_on_literals}
use Rattle.fy_laws.proofs.laws.versions.first_knows_no_others.Goals as goal

pub returns-clause-heal : goal.returns-clause-heal
returns-clause-heal c = λ l. false≢true l.known

pub returns-clause-copy : goal.returns-clause-copy
returns-clause-copy c = λ l. false≢true l.known

pub returns-clause-replace : goal.returns-clause-replace
returns-clause-replace c = λ l. false≢true l.known

pub returns-clause-second : goal.returns-clause-second
unfolding cluster_on_literals
returns-clause-second c = record { legal = legal_by_acts six destroyed_again refl refl; known = refl }
