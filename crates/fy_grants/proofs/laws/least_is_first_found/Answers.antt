use Rattle.fy_grants.proofs.Covering.{least_is_found}
use Rattle.fy_grants.proofs.laws.least_is_first_found.Goals as goal

pub returns : goal.returns
returns c = least_is_found
