use Rattle.std.proofs.Common.{refl}
use Rattle.fy_laws.specs.Clusters.{six}
use Rattle.fy_laws.specs.Wrong.{two_ticks}
use Rattle.fy_laws.proofs.Illegal.{too_long}
use Rattle.fy_laws.proofs.Played.{legal_by_acts, cluster_on_literals}
use Rattle.fy_laws.proofs.laws.wrong.two_ticks.Goals as goal

pub returns-clause-long : goal.returns-clause-long
returns-clause-long c = too_long

pub returns-clause-fits : goal.returns-clause-fits
unfolding cluster_on_literals
returns-clause-fits c = legal_by_acts six two_ticks refl refl
