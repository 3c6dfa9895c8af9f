use Rattle.std.proofs.Common.{◌∙◌, ap, refl}
use Rattle.std.proofs.lemmas.Result.{err_from_is_err_and}
use Rattle.fy_cluster.specs.Execution.{opened}
use Rattle.fy_c.specs.Opening.{Resets}
use Rattle.fy_c.proofs.opening.fresh.Goals as goal

pub returns-in_err-config-clause-memory : goal.returns-in_err-config-clause-memory
returns-in_err-config-clause-memory c =
    let p = err_from_is_err_and c.from_residual.result c.from_residual.ensures.1 in
    rw (p.1, p.2) (Resets.no_memory refl)

pub returns-in_err-make-clause-memory : goal.returns-in_err-make-clause-memory
returns-in_err-make-clause-memory c =
    let p = err_from_is_err_and c.from_residual-in_err-make.result
    c.from_residual-in_err-make.ensures.1 in
    rw (p.1, p.2) (Resets.no_memory refl)

pub returns-clause-fresh : goal.returns-clause-fresh
returns-clause-fresh c =
    Resets.reset (c.in_ok-make.ensures ∙ ap opened (c.in_ok-config.ensures ∙ c.config.ensures))
