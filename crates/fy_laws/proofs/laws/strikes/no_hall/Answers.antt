use Rattle.std.proofs.Common.{refl}
use Rattle.fy_laws.specs.Strikes.{halls, no_hall}
use Rattle.fy_laws.proofs.Played.{legal_by_acts, cluster_on_literals}
use Rattle.fy_laws.proofs.laws.strikes.no_hall.Goals as goal

pub returns-clause-legal : goal.returns-clause-legal
unfolding cluster_on_literals
returns-clause-legal c = legal_by_acts halls no_hall refl refl
