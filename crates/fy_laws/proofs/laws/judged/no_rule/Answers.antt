use Rattle.std.proofs.Common.{[], Some, None, refl, ltb-true}
use Rattle.fy_kinds.specs.declared.kind.Kind.TheVariants.{KillInstantly}
use Rattle.fy_kinds.specs.declared.verdict.Rule.TheVariants.{NoGrant, Protected, TooManyDestroyed, TooFewLeft}
use Rattle.fy_laws.specs.Clusters.{six, process}
use Rattle.fy_laws.specs.Judged.{first_kill}
use Rattle.fy_laws.proofs.Played.{cluster_on_literals}
use Rattle.fy_laws.proofs.FromWords.{right_names, judged_names}
use Rattle.fy_laws.proofs.Turned.{grant_there, no_protection, few_destroyed, enough_left}
use Rattle.fy_laws.proofs.laws.judged.no_rule.Goals as goal

pub returns-clause-names : goal.returns-clause-names
unfolding cluster_on_literals
returns-clause-names c = right_names c.verdict_answers.ensures.answers six [] 1 first_kill None refl

pub returns-clause-granted : goal.returns-clause-granted
returns-clause-granted c = grant_there (Some (NoGrant (process 0))) refl

pub returns-clause-unprotected : goal.returns-clause-unprotected
returns-clause-unprotected c = no_protection (Some (Protected (process 0))) refl

pub returns-clause-few_destroyed : goal.returns-clause-few_destroyed
returns-clause-few_destroyed c = few_destroyed c.verdict_answers.ensures.answers (Some (TooManyDestroyed 0)) refl

pub returns-clause-enough_left : goal.returns-clause-enough_left
returns-clause-enough_left c = enough_left c.verdict_answers.ensures.answers (Some (TooFewLeft 0)) refl

pub returns-clause-wrong : goal.returns-clause-wrong
returns-clause-wrong c = λ j. enough_left c.verdict_answers.ensures.answers (Some (TooFewLeft 0)) refl (judged_names six [] 1 first_kill (record { struck = Some KillInstantly; rule = Some (TooFewLeft 0) }) (ltb-true 1 5 refl) j)
