use Rattle.fy_votes.proofs.Electing.{nobody_lacking_is_elected}
use Rattle.fy_votes.proofs.laws.nobody_lacking_is_elected.Goals as goal

pub returns : goal.returns
returns c = nobody_lacking_is_elected c.empty_satisfies_none.ensures c.more_of_map_satisfies.ensures
