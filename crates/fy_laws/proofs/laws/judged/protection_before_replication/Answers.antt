use Rattle.std.proofs.Common.{Some, refl, ltb-true}
use Rattle.fy_kinds.specs.declared.kind.Kind.TheVariants.{Reboot}
use Rattle.fy_kinds.specs.declared.verdict.Rule.TheVariants.{Protected, TooManyDestroyed}
use Rattle.fy_laws.specs.Clusters.{six, process, weakened}
use Rattle.fy_laws.specs.Strikes.{second_kill}
use Rattle.fy_laws.specs.Judged.{with_kill, emptied_and_protected}
use Rattle.fy_laws.proofs.Played.{legal_by_acts, cluster_on_literals}
use Rattle.fy_laws.proofs.FromWords.{right_names, right_judged, judged_names}
use Rattle.fy_laws.proofs.Turned.{replication_before_protection}
use Rattle.fy_laws.proofs.laws.judged.protection_before_replication.Goals as goal

pub returns-clause-legal : goal.returns-clause-legal
unfolding cluster_on_literals
returns-clause-legal c = legal_by_acts six (with_kill emptied_and_protected 1 second_kill (weakened Reboot (Protected (process 3)))) refl refl

pub returns-clause-names : goal.returns-clause-names
unfolding cluster_on_literals
returns-clause-names c = right_names c.verdict_answers.ensures.answers six emptied_and_protected 1 second_kill (Some (Protected (process 3))) refl

pub returns-clause-later : goal.returns-clause-later
returns-clause-later c = replication_before_protection (Some (TooManyDestroyed 0)) refl

pub returns-clause-judged : goal.returns-clause-judged
unfolding cluster_on_literals
returns-clause-judged c = right_judged c.verdict_answers.ensures.answers six emptied_and_protected 1 second_kill (record { struck = Some Reboot; rule = Some (Protected (process 3)) }) (ltb-true 1 5 refl) refl

pub returns-clause-wrong : goal.returns-clause-wrong
returns-clause-wrong c = λ j. replication_before_protection (Some (TooManyDestroyed 0)) refl (judged_names six emptied_and_protected 1 second_kill (record { struck = Some Reboot; rule = Some (TooManyDestroyed 0) }) (ltb-true 1 5 refl) j)
