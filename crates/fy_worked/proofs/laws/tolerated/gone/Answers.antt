use Rattle.std.proofs.Common.{[], ◌∷◌}
use Rattle.fy_decide.specs.declared.dead_book.Loss.TheVariants.{Gone}
use Rattle.fy_worked.proofs.Tolerated.{gone, more, one_gone}
use Rattle.fy_worked.proofs.laws.tolerated.gone.Goals as goal

pub returns-clause-bears : goal.returns-clause-bears
returns-clause-bears c = gone c.test_is_satisfaction.ensures

pub returns-clause-borne : goal.returns-clause-borne
returns-clause-borne c = one_gone c.test_is_satisfaction.ensures

pub returns-clause-more : goal.returns-clause-more
returns-clause-more c = more c.test_is_satisfaction.ensures Gone (0 ∷ 1 ∷ [])
