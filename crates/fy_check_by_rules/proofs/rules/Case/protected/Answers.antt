use Rattle.fy_kinds.specs.declared.verdict.Rule.TheVariants.{Protected}
use Rattle.fy_check_by_rules.proofs.Ruling.{of_least, of_none}
use Rattle.fy_check_by_rules.proofs.rules.Case.protected.Goals as goal

pub returns-in-Some : goal.returns-in-Some
returns-in-Some c = of_least Protected c.least_protected.result _ c.in-Some.p c.in-Some.is c.least_protected.ensures

pub returns-in-None : goal.returns-in-None
returns-in-None c = of_none Protected c.least_protected.result _ c.in-None.is c.least_protected.ensures
