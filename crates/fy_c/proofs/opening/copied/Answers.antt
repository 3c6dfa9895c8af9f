use Rattle.std.proofs.Common.{◌∙◌, refl}
use Rattle.std.proofs.lemmas.Result.{err_from_is_err_and}
use Rattle.fy_c.specs.Opening.{Copies}
use Rattle.fy_c.proofs.opening.copied.Goals as goal

pub returns-in_err-copy-clause-memory : goal.returns-in_err-copy-clause-memory
returns-in_err-copy-clause-memory c =
    let p = err_from_is_err_and c.from_residual.result c.from_residual.ensures.1 in
    rw (p.1, p.2) (λ old. Copies.no_memory refl)

pub returns-in_err-new-clause-memory : goal.returns-in_err-new-clause-memory
returns-in_err-new-clause-memory c =
    let p = err_from_is_err_and c.from_residual-in_err-new.result
    c.from_residual-in_err-new.ensures.1 in
    rw (p.1, p.2) (λ old. Copies.no_memory refl)

pub returns-clause-copied : goal.returns-clause-copied
returns-clause-copied c = λ old.
    Copies.copied c.closed_up.ensures.open
    (c.closed_up.ensures.value ∙ c.in_ok-new.ensures.ok ∙ c.in_ok-copy.ensures)
