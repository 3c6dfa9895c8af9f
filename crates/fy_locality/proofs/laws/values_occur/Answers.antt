use Rattle.fy_locality.proofs.Values.{value_at_some, some_value_at}
use Rattle.fy_locality.proofs.laws.values_occur.Goals as goal

pub returns : goal.returns
returns c = λ processes key v. (value_at_some processes key v, λ at. some_value_at processes key v at.0 at.1)
