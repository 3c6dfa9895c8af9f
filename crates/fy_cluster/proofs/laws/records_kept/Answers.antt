use Rattle.fy_cluster.proofs.Keepers.{records_kept}
use Rattle.fy_cluster.proofs.laws.records_kept.Goals as goal

pub returns : goal.returns
returns c = records_kept c.test_is_satisfaction.ensures c.more_satisfies.ensures c.destroyed_short.ensures
