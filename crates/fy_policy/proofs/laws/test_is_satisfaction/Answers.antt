use Rattle.fy_policy.proofs.Tests.{Sat-from, from-Sat}
use Rattle.fy_policy.proofs.laws.test_is_satisfaction.Goals as goal

pub returns : goal.returns
returns c = λ processes policy s. (
  Sat-from c.values_differ.ensures c.values_occur.ensures processes policy s,
  from-Sat c.values_differ.ensures c.values_occur.ensures processes policy s,
)
