use Rattle.fy_laws.proofs.Illegal.{second_zone_killed}
use Rattle.fy_laws.proofs.laws.wrong.second_zone_killed.Goals as goal

pub returns : goal.returns
returns c = second_zone_killed
