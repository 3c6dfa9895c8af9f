use Rattle.fy_worked.proofs.Turned.{half, half_none, one_of_three}
use Rattle.fy_worked.proofs.laws.turns.half_read.Goals as goal

pub returns-clause-half : goal.returns-clause-half
returns-clause-half c = half

pub returns-clause-none : goal.returns-clause-none
returns-clause-none c = half_none

pub returns-clause-all : goal.returns-clause-all
returns-clause-all c = one_of_three
