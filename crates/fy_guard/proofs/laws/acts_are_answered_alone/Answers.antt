use Rattle.fy_guard.proofs.Without.{acts_alone, acts_alone_from}
use Rattle.fy_guard.proofs.laws.acts_are_answered_alone.Goals as goal

pub returns-clause-start : goal.returns-clause-start
returns-clause-start c = acts_alone

pub returns-clause-after : goal.returns-clause-after
returns-clause-after c = acts_alone_from
