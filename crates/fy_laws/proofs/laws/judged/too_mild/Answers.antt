use Rattle.std.proofs.Common.{[], Some, None, refl, ltb-true}
use Rattle.fy_kinds.specs.declared.kind.Kind.TheVariants.{RebootAndDelete, KillInstantly}
use Rattle.fy_laws.specs.Clusters.{six, struck}
use Rattle.fy_laws.specs.Judged.{with_kill, first_kill}
use Rattle.fy_laws.proofs.Played.{legal_by_acts, cluster_on_literals}
use Rattle.fy_laws.proofs.FromWords.{right_strikes, right_judged, judged_strikes}
use Rattle.fy_laws.proofs.Turned.{milder_struck, nobody_struck}
use Rattle.fy_laws.proofs.laws.judged.too_mild.Goals as goal

pub returns-clause-legal : goal.returns-clause-legal
unfolding cluster_on_literals
returns-clause-legal c = legal_by_acts six (with_kill [] 1 first_kill (struck KillInstantly)) refl refl

pub returns-clause-strikes : goal.returns-clause-strikes
unfolding cluster_on_literals
returns-clause-strikes c = right_strikes c.verdict_answers.ensures.answers six [] 1 first_kill (Some KillInstantly) refl

pub returns-clause-milder : goal.returns-clause-milder
returns-clause-milder c = milder_struck c.verdict_answers.ensures.answers (Some RebootAndDelete) refl

pub returns-clause-none : goal.returns-clause-none
returns-clause-none c = nobody_struck c.verdict_answers.ensures.answers None refl

pub returns-clause-judged : goal.returns-clause-judged
unfolding cluster_on_literals
returns-clause-judged c = right_judged c.verdict_answers.ensures.answers six [] 1 first_kill (record { struck = Some KillInstantly; rule = None }) (ltb-true 1 5 refl) refl

pub returns-clause-wrong : goal.returns-clause-wrong
returns-clause-wrong c = λ j. milder_struck c.verdict_answers.ensures.answers (Some RebootAndDelete) refl (judged_strikes six [] 1 first_kill (record { struck = Some RebootAndDelete; rule = None }) (ltb-true 1 5 refl) j)
