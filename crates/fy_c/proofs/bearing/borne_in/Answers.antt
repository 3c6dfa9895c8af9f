use Rattle.std.proofs.Common.{refl}
use Rattle.std.proofs.lemmas.Result.{err_from_is_err_and}
use Rattle.fy_c.specs.Bearing.{Bears}
use Rattle.fy_c.proofs.bearing.borne_in.Goals as goal

pub returns-in_err-dead-clause-memory : goal.returns-in_err-dead-clause-memory
returns-in_err-dead-clause-memory c =
    let p = err_from_is_err_and c.from_residual.result c.from_residual.ensures.1 in
    rw (p.1, p.2) (λ old. Bears.no_memory refl)

pub returns-in_err-emptied-clause-memory : goal.returns-in_err-emptied-clause-memory
returns-in_err-emptied-clause-memory c =
    let p = err_from_is_err_and c.from_residual-in_err-emptied.result
    c.from_residual-in_err-emptied.ensures.1 in
    rw (p.1, p.2) (λ old. Bears.no_memory refl)

pub returns-in_err-gone-clause-memory : goal.returns-in_err-gone-clause-memory
returns-in_err-gone-clause-memory c =
    let p = err_from_is_err_and c.from_residual-in_err-gone.result
    c.from_residual-in_err-gone.ensures.1 in
    rw (p.1, p.2) (λ old. Bears.no_memory refl)

pub returns-clause-borne : goal.returns-clause-borne
returns-clause-borne c = λ old.
    Bears.told
    (record {
      dead = c.in_ok-dead.dead;
      book = c.in_ok-dead.ensures;
      emptied = c.in_ok-emptied.ensures;
      gone = c.in_ok-gone.ensures;
    })
