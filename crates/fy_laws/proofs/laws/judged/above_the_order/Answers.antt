use Rattle.std.proofs.Common.{[], Some, None, refl, ltb-true}
use Rattle.fy_kinds.specs.declared.kind.Kind.TheVariants.{Reboot, KillInstantly}
use Rattle.fy_laws.specs.Clusters.{six, struck}
use Rattle.fy_laws.specs.Judged.{with_kill, reboot_alone}
use Rattle.fy_laws.proofs.Played.{legal_by_acts, cluster_on_literals}
use Rattle.fy_laws.proofs.FromWords.{right_strikes, right_judged, judged_strikes}
use Rattle.fy_laws.proofs.Turned.{harder_than_ordered}
use Rattle.fy_laws.proofs.laws.judged.above_the_order.Goals as goal

pub returns-clause-legal : goal.returns-clause-legal
unfolding cluster_on_literals
returns-clause-legal c = legal_by_acts six (with_kill [] 1 reboot_alone (struck Reboot)) refl refl

pub returns-clause-strikes : goal.returns-clause-strikes
unfolding cluster_on_literals
returns-clause-strikes c = right_strikes c.verdict_answers.ensures.answers six [] 1 reboot_alone (Some Reboot) refl

pub returns-clause-harder : goal.returns-clause-harder
returns-clause-harder c = harder_than_ordered (Some KillInstantly) refl

pub returns-clause-judged : goal.returns-clause-judged
unfolding cluster_on_literals
returns-clause-judged c = right_judged c.verdict_answers.ensures.answers six [] 1 reboot_alone (record { struck = Some Reboot; rule = None }) (ltb-true 1 5 refl) refl

pub returns-clause-wrong : goal.returns-clause-wrong
returns-clause-wrong c = λ j. harder_than_ordered (Some KillInstantly) refl (judged_strikes six [] 1 reboot_alone (record { struck = Some KillInstantly; rule = None }) (ltb-true 1 5 refl) j)
