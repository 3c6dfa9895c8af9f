use Rattle.std.proofs.Common.{[], Some, None, refl}
use Rattle.fy_kinds.specs.declared.kind.Kind.TheVariants.{RebootAndDelete, KillInstantly}
use Rattle.fy_kinds.specs.declared.verdict.Rule.TheVariants.{TooFewLeft}
use Rattle.fy_laws.specs.Clusters.{six, struck, weakened}
use Rattle.fy_laws.specs.Strikes.{one_zone, two_zones}
use Rattle.fy_laws.specs.Judged.{killing, first_kill}
use Rattle.fy_laws.proofs.Turned.{milder_or_killed, rule_or_none}
use Rattle.fy_laws.proofs.laws.judged.rule_named.Goals as goal

pub returns-clause-struck : goal.returns-clause-struck
returns-clause-struck c = c.rules_named.ensures six one_zone c.too_mild.ensures.legal

pub returns-clause-lesser : goal.returns-clause-lesser
returns-clause-lesser c = c.rules_named.ensures six two_zones c.too_many_destroyed.ensures.legal

pub returns-clause-unnamed : goal.returns-clause-unnamed
returns-clause-unnamed c = λ named. milder_or_killed ((named [] [] (killing [] 1 first_kill (struck RebootAndDelete)) first_kill (record { struck = Some RebootAndDelete; rule = None }) refl refl refl).0 refl)

pub returns-clause-needless : goal.returns-clause-needless
returns-clause-needless c = λ named. rule_or_none ((named [] [] (killing [] 1 first_kill (weakened KillInstantly (TooFewLeft 0))) first_kill (record { struck = Some KillInstantly; rule = Some (TooFewLeft 0) }) refl refl refl).1 refl)
