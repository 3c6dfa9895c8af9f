use Rattle.fy_c.specs.Making.{IsScopeOf}
use Rattle.fy_c.proofs.rights.scope_of.Goals as goal

pub returns-then-key-eq-EVERYONE-clause-scope : goal.returns-then-key-eq-EVERYONE-clause-scope
returns-then-key-eq-EVERYONE-clause-scope c = IsScopeOf.everyone c.if-key-eq-EVERYONE.true

pub returns-clause-scope : goal.returns-clause-scope
returns-clause-scope c = IsScopeOf.some c.in_ok-target.target c.in_ok-target.ensures.target
