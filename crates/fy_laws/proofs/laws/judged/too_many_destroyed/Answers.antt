use Rattle.std.proofs.Common.{Some, None, refl, ltb-true}
use Rattle.fy_kinds.specs.declared.kind.Kind.TheVariants.{Reboot, RebootAndDelete, KillInstantly}
use Rattle.fy_kinds.specs.declared.verdict.Rule.TheVariants.{TooManyDestroyed}
use Rattle.fy_laws.specs.Clusters.{six, weakened}
use Rattle.fy_laws.specs.Strikes.{one_zone, second_kill}
use Rattle.fy_laws.specs.Judged.{with_kill}
use Rattle.fy_laws.proofs.Played.{legal_by_acts, cluster_on_literals}
use Rattle.fy_laws.proofs.FromWords.{right_strikes, right_names, right_judged, judged_strikes}
use Rattle.fy_laws.proofs.Turned.{second_killed, second_emptied, no_rule_named}
use Rattle.fy_laws.proofs.laws.judged.too_many_destroyed.Goals as goal

pub returns-clause-legal : goal.returns-clause-legal
unfolding cluster_on_literals
returns-clause-legal c = legal_by_acts six (with_kill one_zone 1 second_kill (weakened Reboot (TooManyDestroyed 0))) refl refl

pub returns-clause-strikes : goal.returns-clause-strikes
unfolding cluster_on_literals
returns-clause-strikes c = right_strikes c.verdict_answers.ensures.answers six one_zone 1 second_kill (Some Reboot) refl

pub returns-clause-killed : goal.returns-clause-killed
returns-clause-killed c = second_killed (Some KillInstantly) refl

pub returns-clause-emptied : goal.returns-clause-emptied
returns-clause-emptied c = second_emptied (Some RebootAndDelete) refl

pub returns-clause-names : goal.returns-clause-names
unfolding cluster_on_literals
returns-clause-names c = right_names c.verdict_answers.ensures.answers six one_zone 1 second_kill (Some (TooManyDestroyed 0)) refl

pub returns-clause-unnamed : goal.returns-clause-unnamed
returns-clause-unnamed c = no_rule_named None refl

pub returns-clause-judged : goal.returns-clause-judged
unfolding cluster_on_literals
returns-clause-judged c = right_judged c.verdict_answers.ensures.answers six one_zone 1 second_kill (record { struck = Some Reboot; rule = Some (TooManyDestroyed 0) }) (ltb-true 1 5 refl) refl

pub returns-clause-wrong : goal.returns-clause-wrong
returns-clause-wrong c = λ j. second_killed (Some KillInstantly) refl (judged_strikes six one_zone 1 second_kill (record { struck = Some KillInstantly; rule = None }) (ltb-true 1 5 refl) j)
