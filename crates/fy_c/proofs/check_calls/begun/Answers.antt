use Rattle.std.proofs.Common.{◌∙◌, ap, refl, sym, subst}
use Rattle.std.specs.Prelude.{Ok}
use Rattle.core.specs.Result.{result_from_control_flow}
use Rattle.std.proofs.lemmas.Result.{err_from_is_err_and}
use Rattle.fy_config.specs.Config.{ConfigOf}
use Rattle.fy_c.specs.Checking.{BeginsCheck}
use Rattle.fy_c.specs.declared.checking.Check.{Check}
use Rattle.fy_c.specs.declared.status.Status.TheVariants.{NoMemory}
use Rattle.fy_c.proofs.Begun.{not_begun, had_none_left}
use Rattle.fy_c.proofs.check_calls.begun.Goals as goal

pub returns-in_err-config-clause-refused : goal.returns-in_err-config-clause-refused
returns-in_err-config-clause-refused c =
    let p = err_from_is_err_and c.from_residual.result c.from_residual.ensures.1 in
    rw (p.1, p.2)
    (λ old. BeginsCheck.refused _
    (not_begun c.args.config.now c.read_config.result c.in_err-config.field-0.0
    (c.branch-config.ensures ∙ ap result_from_control_flow c.in_err-config.is)
    c.read_config.ensures.too_long c.read_config.ensures.not_text c.in_err-config.ensures.answers)
    refl)

pub returns-in_err-new-clause-refused : goal.returns-in_err-new-clause-refused
returns-in_err-new-clause-refused c =
    let p = err_from_is_err_and c.from_residual-in_err-new.result
    c.from_residual-in_err-new.ensures.1 in
    rw (p.1, p.2)
    (λ old. BeginsCheck.refused NoMemory
    (had_none_left c.args.config.now c.read_config.result c.in_ok-config.config
    (c.branch-config.ensures ∙ ap result_from_control_flow c.in_ok-config.is)
    c.read_config.ensures.too_long c.read_config.ensures.not_text)
    refl)

pub returns-clause-begun : goal.returns-clause-begun
returns-clause-begun c = λ old.
    let is = c.closed_up.ensures.value ∙ c.in_ok-new.ensures.ok in
    BeginsCheck.begins c.closed_up.ensures.open
    (subst (λ (it : Check). ConfigOf c.args.config.now (Ok it.config)) (sym is)
    c.in_ok-config.ensures.answers)
    (ap (λ (it : Check). it.begun) is)
