use Rattle.fy_cluster.proofs.Keepers.{keepers_found}
use Rattle.fy_cluster.proofs.laws.keepers_found.Goals as goal

pub returns : goal.returns
returns c = keepers_found c.test_is_satisfaction.ensures c.more_satisfies.ensures c.least_is_first_found.ensures c.destroyed_short.ensures
