use Rattle.fy_grants.proofs.Lists.{counted_none, one_more}
use Rattle.fy_grants.proofs.laws.grants_are_counted.Goals as goal

pub returns-clause-none : goal.returns-clause-none
returns-clause-none c = λ actors processes. counted_none actors

pub returns-clause-given : goal.returns-clause-given
returns-clause-given c = λ rights grant within. one_more rights.grants grant.actor grant within
