use Rattle.fy_cluster.proofs.Unchanged.{earlier_rules_hold}
use Rattle.fy_cluster.proofs.laws.earlier_rules_hold.Goals as goal

pub returns : goal.returns
returns c = earlier_rules_hold c.empty_satisfies_none.ensures c.test_is_satisfaction.ensures
