use Rattle.std.proofs.Common.{Some, refl, ltb-true}
use Rattle.fy_kinds.specs.declared.kind.Kind.TheVariants.{Reboot}
use Rattle.fy_kinds.specs.declared.verdict.Rule.TheVariants.{TooManyDestroyed, TooFewLeft}
use Rattle.fy_laws.specs.Clusters.{four, weakened}
use Rattle.fy_laws.specs.Strikes.{second_kill}
use Rattle.fy_laws.specs.Judged.{with_kill, one_emptied}
use Rattle.fy_laws.proofs.Played.{legal_by_acts, cluster_on_literals}
use Rattle.fy_laws.proofs.FromWords.{right_names, right_judged, judged_names}
use Rattle.fy_laws.proofs.Turned.{left_before_destroyed}
use Rattle.fy_laws.proofs.laws.judged.destroyed_before_left.Goals as goal

pub returns-clause-legal : goal.returns-clause-legal
unfolding cluster_on_literals
returns-clause-legal c = legal_by_acts four (with_kill one_emptied 1 second_kill (weakened Reboot (TooManyDestroyed 0))) refl refl

pub returns-clause-names : goal.returns-clause-names
unfolding cluster_on_literals
returns-clause-names c = right_names c.verdict_answers.ensures.answers four one_emptied 1 second_kill (Some (TooManyDestroyed 0)) refl

pub returns-clause-later : goal.returns-clause-later
returns-clause-later c = left_before_destroyed (Some (TooFewLeft 0)) refl

pub returns-clause-judged : goal.returns-clause-judged
unfolding cluster_on_literals
returns-clause-judged c = right_judged c.verdict_answers.ensures.answers four one_emptied 1 second_kill (record { struck = Some Reboot; rule = Some (TooManyDestroyed 0) }) (ltb-true 1 5 refl) refl

pub returns-clause-wrong : goal.returns-clause-wrong
returns-clause-wrong c = λ j. left_before_destroyed (Some (TooFewLeft 0)) refl (judged_names four one_emptied 1 second_kill (record { struck = Some Reboot; rule = Some (TooFewLeft 0) }) (ltb-true 1 5 refl) j)
