use Rattle.std.proofs.Common.{refl}
use Rattle.fy_laws.specs.Permission.{granted, full_of_grants}
use Rattle.fy_laws.proofs.Played.{legal_by_acts, cluster_on_literals}
use Rattle.fy_laws.proofs.laws.permission.full_of_grants.Goals as goal

pub returns-clause-legal : goal.returns-clause-legal
unfolding cluster_on_literals
returns-clause-legal c = legal_by_acts (granted 4095) full_of_grants refl refl
