use Rattle.std.proofs.lemmas.Result.{err_from_is_err_and}
use Rattle.fy_c.specs.Making.{NoGive}
use Rattle.fy_c.proofs.Made.{no_give}
use Rattle.fy_c.proofs.rights.give_of.Goals as goal

pub returns-in_err-kinds-clause-not_given : goal.returns-in_err-kinds-clause-not_given
returns-in_err-kinds-clause-not_given c =
    let p = err_from_is_err_and c.from_residual.result c.from_residual.ensures.1 in
    rw (p.1, p.2)
    (no_give c.args.kinds c.args.key c.args.value.now c.in_err-kinds.field-0.0
    c.in_err-kinds.ensures.none)

pub returns-in_err-scope-clause-not_given : goal.returns-in_err-scope-clause-not_given
returns-in_err-scope-clause-not_given c =
    let p = err_from_is_err_and c.from_residual-in_err-scope.result
    c.from_residual-in_err-scope.ensures.1 in
    rw (p.1, p.2)
    (NoGive.no_scope c.in_ok-kinds.kinds c.in_ok-kinds.ensures.kinds
    c.in_err-scope.ensures.not_everyone c.in_err-scope.field-0.0 c.in_err-scope.ensures.no_key)
