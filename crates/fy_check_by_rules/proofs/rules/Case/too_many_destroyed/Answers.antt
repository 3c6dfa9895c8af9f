use Rattle.std.proofs.Common.{sym, ◌∙◌}
use Rattle.fy_kinds.specs.declared.verdict.Rule.TheVariants.{TooManyDestroyed}
use Rattle.fy_check_by_rules.proofs.Ruling.{of_policy, of_no_policy}
use Rattle.fy_check_by_rules.proofs.rules.Case.too_many_destroyed.Goals as goal

pub returns-in-Some : goal.returns-in-Some
returns-in-Some c = of_policy TooManyDestroyed _ c.too_many.result _ c.in-Some.policy (sym c.destroys.ensures ∙ c.if-not-destroys.false) c.in-Some.is c.too_many.ensures

pub returns-in-None : goal.returns-in-None
returns-in-None c = of_no_policy TooManyDestroyed _ c.too_many.result _ (sym c.destroys.ensures ∙ c.if-not-destroys.false) c.in-None.is c.too_many.ensures
