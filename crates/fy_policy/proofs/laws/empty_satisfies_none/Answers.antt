use Rattle.fy_policy.proofs.SatLaws.{Sat-none}
use Rattle.fy_policy.proofs.laws.empty_satisfies_none.Goals as goal

pub returns : goal.returns
returns c = λ processes policy s is none sat. Sat-none processes policy s is.counted none sat
