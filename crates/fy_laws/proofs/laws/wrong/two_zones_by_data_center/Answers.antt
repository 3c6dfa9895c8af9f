use Rattle.fy_laws.proofs.Illegal.{two_zones_by_data_center}
use Rattle.fy_laws.proofs.laws.wrong.two_zones_by_data_center.Goals as goal

pub returns : goal.returns
returns c = two_zones_by_data_center
