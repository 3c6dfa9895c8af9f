use Rattle.fy_cluster.proofs.Starting.{all_met}
use Rattle.fy_cluster.proofs.laws.none_unmet.Goals as goal

pub returns : goal.returns
returns c = all_met c.test_is_satisfaction.ensures
