use Rattle.std.proofs.Common.{[], Some, None, refl, ltb-true}
use Rattle.fy_kinds.specs.declared.kind.Kind.TheVariants.{RebootAndDelete}
use Rattle.fy_kinds.specs.declared.verdict.Rule.TheVariants.{TooFewLeft}
use Rattle.fy_laws.specs.Clusters.{four, barred}
use Rattle.fy_laws.specs.Judged.{with_kill, kill_alone}
use Rattle.fy_laws.proofs.Played.{legal_by_acts, cluster_on_literals}
use Rattle.fy_laws.proofs.FromWords.{right_strikes, right_judged, judged_strikes}
use Rattle.fy_laws.proofs.Turned.{milder_than_floor}
use Rattle.fy_laws.proofs.laws.judged.below_the_floor.Goals as goal

pub returns-clause-legal : goal.returns-clause-legal
unfolding cluster_on_literals
returns-clause-legal c = legal_by_acts four (with_kill [] 1 kill_alone (barred (TooFewLeft 0))) refl refl

pub returns-clause-strikes : goal.returns-clause-strikes
unfolding cluster_on_literals
returns-clause-strikes c = right_strikes c.verdict_answers.ensures.answers four [] 1 kill_alone None refl

pub returns-clause-milder : goal.returns-clause-milder
returns-clause-milder c = milder_than_floor (Some RebootAndDelete) refl

pub returns-clause-judged : goal.returns-clause-judged
unfolding cluster_on_literals
returns-clause-judged c = right_judged c.verdict_answers.ensures.answers four [] 1 kill_alone (record { struck = None; rule = Some (TooFewLeft 0) }) (ltb-true 1 5 refl) refl

pub returns-clause-wrong : goal.returns-clause-wrong
returns-clause-wrong c = λ j. milder_than_floor (Some RebootAndDelete) refl (judged_strikes four [] 1 kill_alone (record { struck = Some RebootAndDelete; rule = Some (TooFewLeft 0) }) (ltb-true 1 5 refl) j)
