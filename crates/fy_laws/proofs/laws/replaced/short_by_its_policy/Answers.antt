use Rattle.std.proofs.Common.{refl}
use Rattle.fy_laws.specs.Strikes.{three_and_two}
use Rattle.fy_laws.specs.Replaced.{short_by_its_policy}
use Rattle.fy_laws.proofs.Played.{legal_by_acts, cluster_on_literals}
use Rattle.fy_laws.proofs.laws.replaced.short_by_its_policy.Goals as goal

pub returns-clause-legal : goal.returns-clause-legal
unfolding cluster_on_literals
returns-clause-legal c = legal_by_acts three_and_two short_by_its_policy refl refl
