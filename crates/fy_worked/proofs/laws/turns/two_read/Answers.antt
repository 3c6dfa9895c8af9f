use Rattle.fy_worked.proofs.Turned.{first, second, none, third, later}
use Rattle.fy_worked.proofs.laws.turns.two_read.Goals as goal

pub returns-clause-first : goal.returns-clause-first
returns-clause-first c = first

pub returns-clause-second : goal.returns-clause-second
returns-clause-second c = second

pub returns-clause-none : goal.returns-clause-none
returns-clause-none c = none

pub returns-clause-third : goal.returns-clause-third
returns-clause-third c = third

pub returns-clause-later : goal.returns-clause-later
returns-clause-later c = later
