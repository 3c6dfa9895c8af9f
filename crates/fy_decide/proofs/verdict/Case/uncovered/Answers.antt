use Rattle.std.proofs.Common.{not, sym, ap, ◌∙◌}
use Rattle.fy_grants.specs.Rights.{grants_of, is_covered}
use Rattle.fy_decide.specs.Targets.{set_of, targeted}
use Rattle.fy_decide.proofs.Alone.{one_passes, one_fails}
use Rattle.fy_decide.proofs.verdict.Case.uncovered.Goals as goal

pub returns-then-covers : goal.returns-then-covers
returns-then-covers c =
    one_fails (targeted c.args.self.now.targets.now) c.in-One.p (λ q. not (is_covered c.args.self.now.book.now.processes (grants_of c.args.self.now.book.now c.args.self.now.actor) c.args.kinds q))
    (ap set_of c.in-One.is)
    (ap not (sym c.covers.ensures ∙ c.if-covers.true))

pub returns-else-covers : goal.returns-else-covers
returns-else-covers c =
    one_passes (targeted c.args.self.now.targets.now) c.in-One.p (λ q. not (is_covered c.args.self.now.book.now.processes (grants_of c.args.self.now.book.now c.args.self.now.actor) c.args.kinds q))
    (ap set_of c.in-One.is)
    (ap not (sym c.covers.ensures ∙ c.if-covers.false))
