use Rattle.std.proofs.Common.{sym, ◌∙◌}
use Rattle.fy_grants.proofs.Covering.{asked, unasked}
use Rattle.fy_grants.proofs.scopes.without_granted.Goals as goal

pub returns-then-contains : goal.returns-then-contains
returns-then-contains c = λ q. c.without_scope.ensures q ∙ asked _ _ _ (sym c.if-contains.ensures)

pub returns-else-contains : goal.returns-else-contains
returns-else-contains c = λ q. unasked _ _ _ (sym c.if-contains.ensures)
