use Rattle.fy_policy.proofs.Tallied.{taken}
use Rattle.fy_policy.proofs.laws.values_pass_apart.Goals as goal

pub returns : goal.returns
returns c = λ processes key policy v s formed had. taken processes key policy c.values_differ.ensures c.values_occur.ensures formed s had.0 v had.1
