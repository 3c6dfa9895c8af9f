use Rattle.std.proofs.Common.{refl}
use Rattle.fy_worked.proofs.Simulated.{one_turn, two_turns, fewer, more, refused}
use Rattle.fy_worked.proofs.laws.simulated.two_turns.Goals as goal

pub returns-clause-made : goal.returns-clause-made
returns-clause-made c = two_turns c.journals_survive.ensures 2 refl

pub returns-clause-one : goal.returns-clause-one
returns-clause-one c = one_turn c.journals_survive.ensures

pub returns-clause-full : goal.returns-clause-full
returns-clause-full c = two_turns c.journals_survive.ensures 5 refl

pub returns-clause-fewer : goal.returns-clause-fewer
returns-clause-fewer c = fewer c.a_simulation_is_one.ensures c.journals_survive.ensures

pub returns-clause-more : goal.returns-clause-more
returns-clause-more c = more c.a_simulation_is_one.ensures c.journals_survive.ensures

pub returns-clause-order : goal.returns-clause-order
returns-clause-order c = (refused c.a_simulation_is_one.ensures c.journals_survive.ensures).0

pub returns-clause-reply : goal.returns-clause-reply
returns-clause-reply c = (refused c.a_simulation_is_one.ensures c.journals_survive.ensures).1

pub returns-clause-plan : goal.returns-clause-plan
returns-clause-plan c = (refused c.a_simulation_is_one.ensures c.journals_survive.ensures).2

pub returns-clause-words : goal.returns-clause-words
returns-clause-words c = (refused c.a_simulation_is_one.ensures c.journals_survive.ensures).3
