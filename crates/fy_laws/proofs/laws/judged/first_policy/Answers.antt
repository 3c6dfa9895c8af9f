use Rattle.std.proofs.Common.{Some, refl, ltb-true}
use Rattle.fy_kinds.specs.declared.kind.Kind.TheVariants.{Reboot}
use Rattle.fy_kinds.specs.declared.verdict.Rule.TheVariants.{TooManyDestroyed}
use Rattle.fy_laws.specs.Clusters.{weakened}
use Rattle.fy_laws.specs.Strikes.{one_zone, second_kill}
use Rattle.fy_laws.specs.Judged.{with_kill, six_twice}
use Rattle.fy_laws.proofs.Played.{legal_by_acts, cluster_on_literals}
use Rattle.fy_laws.proofs.FromWords.{right_names, right_judged, judged_names}
use Rattle.fy_laws.proofs.Turned.{later_policy}
use Rattle.fy_laws.proofs.laws.judged.first_policy.Goals as goal

pub returns-clause-legal : goal.returns-clause-legal
unfolding cluster_on_literals
returns-clause-legal c = legal_by_acts six_twice (with_kill one_zone 1 second_kill (weakened Reboot (TooManyDestroyed 0))) refl refl

pub returns-clause-names : goal.returns-clause-names
unfolding cluster_on_literals
returns-clause-names c = right_names c.verdict_answers.ensures.answers six_twice one_zone 1 second_kill (Some (TooManyDestroyed 0)) refl

pub returns-clause-greater : goal.returns-clause-greater
returns-clause-greater c = later_policy (Some (TooManyDestroyed 1)) refl

pub returns-clause-judged : goal.returns-clause-judged
unfolding cluster_on_literals
returns-clause-judged c = right_judged c.verdict_answers.ensures.answers six_twice one_zone 1 second_kill (record { struck = Some Reboot; rule = Some (TooManyDestroyed 0) }) (ltb-true 1 5 refl) refl

pub returns-clause-wrong : goal.returns-clause-wrong
returns-clause-wrong c = λ j. later_policy (Some (TooManyDestroyed 1)) refl (judged_names six_twice one_zone 1 second_kill (record { struck = Some Reboot; rule = Some (TooManyDestroyed 1) }) (ltb-true 1 5 refl) j)
