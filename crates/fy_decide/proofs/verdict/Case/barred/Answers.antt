use Rattle.std.proofs.Common.{sym, ap, ◌∙◌}
use Rattle.fy_grants.specs.Rights.{is_protected}
use Rattle.fy_decide.specs.Targets.{set_of, targeted}
use Rattle.fy_decide.proofs.Alone.{one_passes, one_fails}
use Rattle.fy_decide.proofs.verdict.Case.barred.Goals as goal

pub returns-then-protects : goal.returns-then-protects
returns-then-protects c =
    one_passes (targeted c.args.self.now.targets.now) c.in-One.p (is_protected c.args.self.now.book.now c.args.kinds)
    (ap set_of c.in-One.is)
    (sym c.protects.ensures ∙ c.if-protects.true)

pub returns-else-protects : goal.returns-else-protects
returns-else-protects c =
    one_fails (targeted c.args.self.now.targets.now) c.in-One.p (is_protected c.args.self.now.book.now c.args.kinds)
    (ap set_of c.in-One.is)
    (sym c.protects.ensures ∙ c.if-protects.false)
