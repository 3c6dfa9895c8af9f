use Rattle.std.proofs.Common.{[], Some, None, refl, ltb-true}
use Rattle.fy_kinds.specs.declared.kind.Kind.TheVariants.{KillInstantly}
use Rattle.fy_kinds.specs.declared.verdict.Rule.TheVariants.{NoTarget, NoGrant}
use Rattle.fy_laws.specs.Clusters.{six, process, barred}
use Rattle.fy_laws.specs.Judged.{with_kill, nobody_killed}
use Rattle.fy_laws.proofs.Played.{legal_by_acts, cluster_on_literals}
use Rattle.fy_laws.proofs.FromWords.{right_strikes, right_names, right_judged, judged_names}
use Rattle.fy_laws.proofs.Turned.{nobody_there, grant_of_nobody, target_there}
use Rattle.fy_laws.proofs.laws.judged.target_first.Goals as goal

pub returns-clause-legal : goal.returns-clause-legal
unfolding cluster_on_literals
returns-clause-legal c = legal_by_acts six (with_kill [] 1 nobody_killed (barred NoTarget)) refl refl

pub returns-clause-strikes : goal.returns-clause-strikes
unfolding cluster_on_literals
returns-clause-strikes c = right_strikes c.verdict_answers.ensures.answers six [] 1 nobody_killed None refl

pub returns-clause-struck : goal.returns-clause-struck
returns-clause-struck c = nobody_there c.verdict_answers.ensures.answers (Some KillInstantly) refl

pub returns-clause-names : goal.returns-clause-names
unfolding cluster_on_literals
returns-clause-names c = right_names c.verdict_answers.ensures.answers six [] 1 nobody_killed (Some NoTarget) refl

pub returns-clause-later : goal.returns-clause-later
returns-clause-later c = grant_of_nobody (Some (NoGrant (process 0))) refl

pub returns-clause-judged : goal.returns-clause-judged
unfolding cluster_on_literals
returns-clause-judged c = right_judged c.verdict_answers.ensures.answers six [] 1 nobody_killed (record { struck = None; rule = Some NoTarget }) (ltb-true 1 5 refl) refl

pub returns-clause-wrong : goal.returns-clause-wrong
returns-clause-wrong c = λ j. grant_of_nobody (Some (NoGrant (process 0))) refl (judged_names six [] 1 nobody_killed (record { struck = None; rule = Some (NoGrant (process 0)) }) (ltb-true 1 5 refl) j)

pub returns-clause-there : goal.returns-clause-there
returns-clause-there c = target_there (Some NoTarget) refl
