use Rattle.std.proofs.Common.{[], ◌∷◌}
use Rattle.fy_decide.specs.declared.dead_book.Loss.TheVariants.{Emptied}
use Rattle.fy_worked.proofs.Tolerated.{emptied, more, fewer, zone_emptied, needless}
use Rattle.fy_worked.proofs.laws.tolerated.emptied.Goals as goal

pub returns-clause-bears : goal.returns-clause-bears
returns-clause-bears c = emptied c.test_is_satisfaction.ensures

pub returns-clause-more : goal.returns-clause-more
returns-clause-more c = more c.test_is_satisfaction.ensures Emptied (0 ∷ 2 ∷ [])

pub returns-clause-fewer : goal.returns-clause-fewer
returns-clause-fewer c = fewer c.test_is_satisfaction.ensures

pub returns-clause-borne : goal.returns-clause-borne
returns-clause-borne c = zone_emptied c.test_is_satisfaction.ensures

pub returns-clause-needless : goal.returns-clause-needless
returns-clause-needless c = needless c.test_is_satisfaction.ensures
