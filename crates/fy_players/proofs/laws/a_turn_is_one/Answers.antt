use Rattle.fy_players.proofs.Same.{turn_one}
use Rattle.fy_players.proofs.laws.a_turn_is_one.Goals as goal

pub returns : goal.returns
returns c = turn_one
