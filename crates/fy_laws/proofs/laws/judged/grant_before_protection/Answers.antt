use Rattle.std.proofs.Common.{Some, None, refl, ltb-true}
use Rattle.fy_kinds.specs.declared.verdict.Rule.TheVariants.{NoGrant, Protected}
use Rattle.fy_laws.specs.Clusters.{six, process, barred}
use Rattle.fy_laws.specs.Judged.{with_kill, first_kill, one_protected}
use Rattle.fy_laws.proofs.Played.{legal_by_acts, cluster_on_literals}
use Rattle.fy_laws.proofs.FromWords.{right_names, right_judged, judged_names}
use Rattle.fy_laws.proofs.Turned.{protection_before_grant}
use Rattle.fy_laws.proofs.laws.judged.grant_before_protection.Goals as goal

pub returns-clause-legal : goal.returns-clause-legal
unfolding cluster_on_literals
returns-clause-legal c = legal_by_acts six (with_kill one_protected 3 first_kill (barred (NoGrant (process 0)))) refl refl

pub returns-clause-names : goal.returns-clause-names
unfolding cluster_on_literals
returns-clause-names c = right_names c.verdict_answers.ensures.answers six one_protected 3 first_kill (Some (NoGrant (process 0))) refl

pub returns-clause-later : goal.returns-clause-later
returns-clause-later c = protection_before_grant (Some (Protected (process 1))) refl

pub returns-clause-judged : goal.returns-clause-judged
unfolding cluster_on_literals
returns-clause-judged c = right_judged c.verdict_answers.ensures.answers six one_protected 3 first_kill (record { struck = None; rule = Some (NoGrant (process 0)) }) (ltb-true 3 5 refl) refl

pub returns-clause-wrong : goal.returns-clause-wrong
returns-clause-wrong c = λ j. protection_before_grant (Some (Protected (process 1))) refl (judged_names six one_protected 3 first_kill (record { struck = None; rule = Some (Protected (process 1)) }) (ltb-true 3 5 refl) j)
