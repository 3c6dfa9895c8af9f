use Rattle.std.proofs.Common.{◌∙◌, refl, subst, sym}
use Rattle.std.proofs.lemmas.Result.{err_from_is_err_and}
use Rattle.fy_c.specs.Opening.{Begins, Opens}
use Rattle.fy_c.specs.declared.status.Status.TheVariants.{NoMemory}
use Rattle.fy_c.proofs.opening.open.Goals as goal

pub returns-in_err-cluster-clause-refused : goal.returns-in_err-cluster-clause-refused
returns-in_err-cluster-clause-refused c =
    let p = err_from_is_err_and c.from_residual.result c.from_residual.ensures.1 in
    rw (p.1, p.2)
    (λ old. Opens.refused c.in_err-cluster.field-0.0 c.in_err-cluster.ensures.refused refl)

pub returns-in_err-new-clause-refused : goal.returns-in_err-new-clause-refused
returns-in_err-new-clause-refused c =
    let p = err_from_is_err_and c.from_residual-in_err-new.result
    c.from_residual-in_err-new.ensures.1 in
    rw (p.1, p.2) (λ old. Opens.refused NoMemory c.in_ok-cluster.ensures.asked refl)

pub returns-clause-opened : goal.returns-clause-opened
returns-clause-opened c = λ old.
    Opens.begins c.closed_up.ensures.open
    (subst (Begins c.args.config.now) (sym (c.closed_up.ensures.value ∙ c.in_ok-new.ensures.ok))
    c.in_ok-cluster.ensures.begun)
