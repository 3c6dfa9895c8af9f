use Rattle.fy_laws.proofs.Blamed.{is_legal, by_two, nobody, not_short}
use Rattle.fy_laws.proofs.laws.blames.misled.Goals as goal

pub returns-clause-legal : goal.returns-clause-legal
returns-clause-legal c = is_legal

pub returns-clause-two : goal.returns-clause-two
returns-clause-two c = by_two

pub returns-clause-nobody : goal.returns-clause-nobody
returns-clause-nobody c = nobody

pub returns-clause-blame : goal.returns-clause-blame
returns-clause-blame c = not_short c.test_is_satisfaction.ensures
