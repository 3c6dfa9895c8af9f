use Rattle.std.proofs.Common.{[], refl}
use Rattle.fy_laws.specs.Clusters.{six}
use Rattle.fy_laws.specs.Strikes.{two_zones}
use Rattle.fy_laws.proofs.Unsafe.{two_destroyed}
use Rattle.fy_laws.proofs.laws.safe.safe_from_too_many_destroyed.Goals as goal

pub returns-clause-safe : goal.returns-clause-safe
returns-clause-safe c = (c.journals_survive.ensures six two_zones c.six_is_met.ensures c.two_zones.ensures.legal).safe two_zones [] refl

pub returns-clause-satisfy : goal.returns-clause-satisfy
returns-clause-satisfy c = λ short. short.0 two_destroyed

pub returns-clause-wrong : goal.returns-clause-wrong
returns-clause-wrong c = λ safe. safe.short.0 two_destroyed
