use Rattle.std.proofs.Common.{Some, refl, ltb-true}
use Rattle.fy_kinds.specs.declared.kind.Kind.TheVariants.{Reboot}
use Rattle.fy_kinds.specs.declared.verdict.Rule.TheVariants.{Protected}
use Rattle.fy_laws.specs.Clusters.{six, process, weakened}
use Rattle.fy_laws.specs.Judged.{with_kill, first_kill, two_protected}
use Rattle.fy_laws.proofs.Played.{legal_by_acts, cluster_on_literals}
use Rattle.fy_laws.proofs.FromWords.{right_names, right_judged, judged_names}
use Rattle.fy_laws.proofs.Turned.{greater_protected}
use Rattle.fy_laws.proofs.laws.judged.least_protected.Goals as goal

pub returns-clause-legal : goal.returns-clause-legal
unfolding cluster_on_literals
returns-clause-legal c = legal_by_acts six (with_kill two_protected 1 first_kill (weakened Reboot (Protected (process 0)))) refl refl

pub returns-clause-names : goal.returns-clause-names
unfolding cluster_on_literals
returns-clause-names c = right_names c.verdict_answers.ensures.answers six two_protected 1 first_kill (Some (Protected (process 0))) refl

pub returns-clause-greater : goal.returns-clause-greater
returns-clause-greater c = greater_protected (Some (Protected (process 1))) refl

pub returns-clause-judged : goal.returns-clause-judged
unfolding cluster_on_literals
returns-clause-judged c = right_judged c.verdict_answers.ensures.answers six two_protected 1 first_kill (record { struck = Some Reboot; rule = Some (Protected (process 0)) }) (ltb-true 1 5 refl) refl

pub returns-clause-wrong : goal.returns-clause-wrong
returns-clause-wrong c = λ j. greater_protected (Some (Protected (process 1))) refl (judged_names six two_protected 1 first_kill (record { struck = Some Reboot; rule = Some (Protected (process 1)) }) (ltb-true 1 5 refl) j)
