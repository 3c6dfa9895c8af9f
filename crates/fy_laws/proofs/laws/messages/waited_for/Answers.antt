use Rattle.std.proofs.Common.{refl}
use Rattle.fy_laws.specs.Clusters.{six}
use Rattle.fy_laws.specs.Messages.{waited_for}
use Rattle.fy_laws.proofs.Played.{legal_by_acts, cluster_on_literals}
use Rattle.fy_laws.proofs.laws.messages.waited_for.Goals as goal

pub returns-clause-legal : goal.returns-clause-legal
unfolding cluster_on_literals
returns-clause-legal c = legal_by_acts six waited_for refl refl
