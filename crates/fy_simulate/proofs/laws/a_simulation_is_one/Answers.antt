use Rattle.fy_simulate.proofs.Same.{journal_one}
use Rattle.fy_simulate.proofs.laws.a_simulation_is_one.Goals as goal

pub returns : goal.returns
returns c = journal_one c.a_turn_is_one.ensures
