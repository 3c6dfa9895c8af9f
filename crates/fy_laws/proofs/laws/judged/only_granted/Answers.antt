use Rattle.std.proofs.Common.{[], Some, refl, ltb-true}
use Rattle.fy_kinds.specs.declared.kind.Kind.TheVariants.{Reboot, RebootAndDelete}
use Rattle.fy_kinds.specs.declared.verdict.Rule.TheVariants.{TooFewLeft}
use Rattle.fy_laws.specs.Clusters.{four, weakened}
use Rattle.fy_laws.specs.Judged.{with_kill, first_kill}
use Rattle.fy_laws.proofs.Played.{legal_by_acts, cluster_on_literals}
use Rattle.fy_laws.proofs.FromWords.{right_strikes, right_judged, judged_strikes}
use Rattle.fy_laws.proofs.Turned.{ungranted_struck}
use Rattle.fy_laws.proofs.laws.judged.only_granted.Goals as goal

pub returns-clause-legal : goal.returns-clause-legal
unfolding cluster_on_literals
returns-clause-legal c = legal_by_acts four (with_kill [] 2 first_kill (weakened Reboot (TooFewLeft 0))) refl refl

pub returns-clause-strikes : goal.returns-clause-strikes
unfolding cluster_on_literals
returns-clause-strikes c = right_strikes c.verdict_answers.ensures.answers four [] 2 first_kill (Some Reboot) refl

pub returns-clause-emptied : goal.returns-clause-emptied
returns-clause-emptied c = ungranted_struck (Some RebootAndDelete) refl

pub returns-clause-judged : goal.returns-clause-judged
unfolding cluster_on_literals
returns-clause-judged c = right_judged c.verdict_answers.ensures.answers four [] 2 first_kill (record { struck = Some Reboot; rule = Some (TooFewLeft 0) }) (ltb-true 2 5 refl) refl

pub returns-clause-wrong : goal.returns-clause-wrong
returns-clause-wrong c = λ j. ungranted_struck (Some RebootAndDelete) refl (judged_strikes four [] 2 first_kill (record { struck = Some RebootAndDelete; rule = Some (TooFewLeft 0) }) (ltb-true 2 5 refl) j)
