use Rattle.std.proofs.Common.{[], refl}
use Rattle.fy_laws.specs.Clusters.{four}
use Rattle.fy_laws.specs.Strikes.{few_left}
use Rattle.fy_laws.proofs.Unsafe.{one_left}
use Rattle.fy_laws.proofs.laws.safe.safe_from_too_few_left.Goals as goal

pub returns-clause-safe : goal.returns-clause-safe
returns-clause-safe c = (c.journals_survive.ensures four few_left c.four_is_met.ensures c.few_left.ensures.legal).safe few_left [] refl

pub returns-clause-short : goal.returns-clause-short
returns-clause-short c = one_left c.test_is_satisfaction.ensures

pub returns-clause-wrong : goal.returns-clause-wrong
returns-clause-wrong c = λ safe. one_left c.test_is_satisfaction.ensures safe.satisfied
