use Rattle.std.proofs.Common.{[], refl}
use Rattle.fy_laws.specs.Clusters.{six}
use Rattle.fy_laws.specs.Healed.{healed}
use Rattle.fy_laws.proofs.Unsafe.{first_lacks_it}
use Rattle.fy_laws.proofs.laws.safe.kept_by_everyone.Goals as goal

pub returns-clause-safe : goal.returns-clause-safe
returns-clause-safe c = (c.journals_survive.ensures six healed c.six_is_met.ensures c.healed.ensures.legal).safe healed [] refl

pub returns-clause-lacking : goal.returns-clause-lacking
returns-clause-lacking c = first_lacks_it

pub returns-clause-wrong : goal.returns-clause-wrong
returns-clause-wrong c = λ safe. first_lacks_it (safe.kept 0 refl)
