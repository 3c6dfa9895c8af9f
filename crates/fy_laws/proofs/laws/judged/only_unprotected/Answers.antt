use Rattle.std.proofs.Common.{Some, None, refl, ltb-true}
use Rattle.fy_kinds.specs.declared.kind.Kind.TheVariants.{Reboot, KillInstantly}
use Rattle.fy_kinds.specs.declared.verdict.Rule.TheVariants.{Protected}
use Rattle.fy_laws.specs.Clusters.{six, process, weakened}
use Rattle.fy_laws.specs.Judged.{with_kill, first_kill, one_protected}
use Rattle.fy_laws.proofs.Played.{legal_by_acts, cluster_on_literals}
use Rattle.fy_laws.proofs.FromWords.{right_strikes, right_judged, judged_strikes}
use Rattle.fy_laws.proofs.Turned.{protected_struck}
use Rattle.fy_laws.proofs.laws.judged.only_unprotected.Goals as goal

pub returns-clause-legal : goal.returns-clause-legal
unfolding cluster_on_literals
returns-clause-legal c = legal_by_acts six (with_kill one_protected 1 first_kill (weakened Reboot (Protected (process 1)))) refl refl

pub returns-clause-strikes : goal.returns-clause-strikes
unfolding cluster_on_literals
returns-clause-strikes c = right_strikes c.verdict_answers.ensures.answers six one_protected 1 first_kill (Some Reboot) refl

pub returns-clause-killed : goal.returns-clause-killed
returns-clause-killed c = protected_struck (Some KillInstantly) refl

pub returns-clause-judged : goal.returns-clause-judged
unfolding cluster_on_literals
returns-clause-judged c = right_judged c.verdict_answers.ensures.answers six one_protected 1 first_kill (record { struck = Some Reboot; rule = Some (Protected (process 1)) }) (ltb-true 1 5 refl) refl

pub returns-clause-wrong : goal.returns-clause-wrong
returns-clause-wrong c = λ j. protected_struck (Some KillInstantly) refl (judged_strikes six one_protected 1 first_kill (record { struck = Some KillInstantly; rule = None }) (ltb-true 1 5 refl) j)
