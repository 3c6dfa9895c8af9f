use Rattle.core.specs.Result.{result_from_control_flow}
use Rattle.std.proofs.Common.{◌∙◌, [], ap, refl, subst, sym}
use Rattle.std.proofs.lemmas.Result.{err_from_is_err_and}
use Rattle.std.specs.Prelude.{Ok}
use Rattle.fy_c.specs.Resuming.{Follows, NotFollowed, OpensAfter}
use Rattle.fy_c.specs.declared.status.Status.TheVariants.{NoMemory}
use Rattle.fy_c.proofs.Followed.{followed_whole}
use Rattle.fy_c.proofs.resuming.open_after.Goals as goal

pub returns-in_err-cluster-clause-refused : goal.returns-in_err-cluster-clause-refused
returns-in_err-cluster-clause-refused c =
    let p = err_from_is_err_and c.from_residual.result c.from_residual.ensures.1 in
    rw (p.1, p.2)
    (λ old.
    OpensAfter.not_opened c.in_err-cluster.field-0.0 c.in_err-cluster.ensures.refused refl refl)

pub returns-in_err-at-clause-refused : goal.returns-in_err-at-clause-refused
returns-in_err-at-clause-refused c =
    let p = err_from_is_err_and c.from_residual-in_err-at.result
    c.from_residual-in_err-at.ensures.1 in
    rw (p.1, p.2)
    (λ old. OpensAfter.not_followed c.in_err-at.field-0.0 c.in_ok-cluster.cluster.setup
    c.in_ok-cluster.ensures.begun.0 c.in_err-at.ensures.refused refl refl)

pub returns-in-Some-clause-refused : goal.returns-in-Some-clause-refused
returns-in-Some-clause-refused c = λ old.
    OpensAfter.refutes c.in_ok-cluster.cluster.setup c.in_ok-cluster.ensures.begun.0
    (rw c.in-Some.is at c.in_ok-at.ensures.refuted) refl

pub returns-in_err-new-clause-refused : goal.returns-in_err-new-clause-refused
returns-in_err-new-clause-refused c =
    let p = err_from_is_err_and c.from_residual-in_err-new.result
    c.from_residual-in_err-new.ensures.1 in
    rw (p.1, p.2)
    (λ old. OpensAfter.not_followed NoMemory c.in_ok-cluster.cluster.setup
    c.in_ok-cluster.ensures.begun.0
    (NotFollowed.no_memory c.follow.new.cluster.journal []
    (followed_whole c.in_ok-cluster.cluster.setup c.args.audit.now c.follow.new.cluster
    (c.follow.ensures.followed
    (c.branch-at.ensures ∙ ap result_from_control_flow c.in_ok-at.is ∙ ap Ok c.in_default.is)))) refl refl)

pub returns-clause-opened : goal.returns-clause-opened
returns-clause-opened c = λ old.
    OpensAfter.follows c.closed_up.ensures.open c.in_ok-cluster.cluster.setup
    c.in_ok-cluster.ensures.begun.0
    (subst (Follows c.in_ok-cluster.cluster.setup c.args.audit.now)
    (sym (c.closed_up.ensures.value ∙ c.in_ok-new.ensures.ok))
    (c.follow.ensures.followed
    (c.branch-at.ensures ∙ ap result_from_control_flow c.in_ok-at.is ∙ ap Ok c.in_default.is))) refl
