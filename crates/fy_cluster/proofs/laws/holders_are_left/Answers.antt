use Rattle.fy_cluster.proofs.Stores.{holders_are_left}
use Rattle.fy_cluster.proofs.laws.holders_are_left.Goals as goal

pub returns : goal.returns
returns c = holders_are_left c.more_of_map_satisfies.ensures c.some_holder_is_left.ensures c.destroyed_short.ensures
