use Rattle.std.proofs.Common.{sym, ap, cond, ◌∙◌}
use Rattle.fy_decide.specs.DeadBook.{struck}
use Rattle.fy_tolerance.proofs.book.strike_as_allowed.Goals as goal

pub returns-then-may_destroy : goal.returns-then-may_destroy
returns-then-may_destroy c = c.strike.ensures ∙ ap (λ b. cond b (struck c.args.dead.now c.args.set.now c.args.loss) c.args.dead.now) (sym c.if-may_destroy.true ∙ c.may_destroy.ensures.test)

pub returns-else-may_destroy : goal.returns-else-may_destroy
returns-else-may_destroy c = ap (λ b. cond b (struck c.args.dead.now c.args.set.now c.args.loss) c.args.dead.now) (sym c.if-may_destroy.false ∙ c.may_destroy.ensures.test)
