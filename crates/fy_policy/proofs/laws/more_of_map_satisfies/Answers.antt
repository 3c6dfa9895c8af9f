use Rattle.fy_policy.proofs.SatLaws.{Sat-more-below}
use Rattle.fy_policy.proofs.laws.more_of_map_satisfies.Goals as goal

pub returns : goal.returns
returns c = Sat-more-below
