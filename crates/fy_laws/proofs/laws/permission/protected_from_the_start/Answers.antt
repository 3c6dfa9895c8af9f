use Rattle.std.proofs.Common.{refl}
use Rattle.fy_laws.specs.Permission.{guarded, protected_from_the_start}
use Rattle.fy_laws.proofs.Played.{legal_by_acts, cluster_on_literals}
use Rattle.fy_laws.proofs.laws.permission.protected_from_the_start.Goals as goal

pub returns-clause-legal : goal.returns-clause-legal
unfolding cluster_on_literals
returns-clause-legal c = legal_by_acts guarded protected_from_the_start refl refl
