use Rattle.fy_locality.proofs.Values.{value_had, had_value}
use Rattle.fy_locality.proofs.laws.value_is_had.Goals as goal

pub returns : goal.returns
returns c = λ processes key v p. (value_had processes key v p, had_value processes key v p)
