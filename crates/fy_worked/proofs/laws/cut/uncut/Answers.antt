use Rattle.fy_worked.proofs.Cut.{whole, nothing}
use Rattle.fy_worked.proofs.laws.cut.uncut.Goals as goal

pub returns-clause-whole : goal.returns-clause-whole
returns-clause-whole c = whole

pub returns-clause-nothing : goal.returns-clause-nothing
returns-clause-nothing c = nothing
