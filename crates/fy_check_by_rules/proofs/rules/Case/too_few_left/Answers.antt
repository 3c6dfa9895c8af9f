use Rattle.std.proofs.Common.{sym, ◌∙◌}
use Rattle.fy_kinds.specs.declared.verdict.Rule.TheVariants.{TooFewLeft}
use Rattle.fy_check_by_rules.proofs.Ruling.{of_policy, of_no_policy}
use Rattle.fy_check_by_rules.proofs.rules.Case.too_few_left.Goals as goal

pub returns-in-Some : goal.returns-in-Some
returns-in-Some c = of_policy TooFewLeft _ c.too_few.result _ c.in-Some.policy (sym c.destroys_for_good.ensures ∙ c.if-not-destroys_for_good.false) c.in-Some.is c.too_few.ensures

pub returns-in-None : goal.returns-in-None
returns-in-None c = of_no_policy TooFewLeft _ c.too_few.result _ (sym c.destroys_for_good.ensures ∙ c.if-not-destroys_for_good.false) c.in-None.is c.too_few.ensures
