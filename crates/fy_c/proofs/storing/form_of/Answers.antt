use Rattle.std.proofs.Common.{refl}
use Rattle.std.proofs.lemmas.Bool.{false≢true}
use Rattle.std.proofs.lemmas.Result.{err_from_is_err_and}
use Rattle.fy_c.specs.Making.{NoForm}
use Rattle.fy_answers.proofs.Entering.{has_room}
use Rattle.fy_c.proofs.storing.form_of.Goals as goal

pub returns-then-not-are_members-clause-not_given :
    goal.returns-then-not-are_members-clause-not_given
returns-then-not-are_members-clause-not_given c =
    NoForm.no_members (λ are. absurd (false≢true (c.if-not-are_members.ensures.1 are)))

pub returns-then-is_full-clause-not_given : goal.returns-then-is_full-clause-not_given
returns-then-is_full-clause-not_given c =
    NoForm.full (c.if-not-are_members.ensures.0 refl) (c.if-is_full.ensures.0 refl)

pub returns-in_err-found-clause-not_given : goal.returns-in_err-found-clause-not_given
returns-in_err-found-clause-not_given c =
    let p = err_from_is_err_and c.from_residual.result c.from_residual.ensures.1 in
    rw (p.1, p.2)
    (NoForm.no_memory (c.if-not-are_members.ensures.0 refl)
    (has_room c.args.cluster.now (λ full. absurd (false≢true (c.if-is_full.ensures.1 full)))))
