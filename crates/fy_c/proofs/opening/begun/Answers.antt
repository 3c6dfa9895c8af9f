use Rattle.std.proofs.Common.{◌∙◌, ap, sym, subst}
use Rattle.std.specs.Prelude.{Ok}
use Rattle.core.specs.Result.{result_from_control_flow}
use Rattle.std.proofs.lemmas.Result.{err_from_is_err_and}
use Rattle.fy_config.specs.Config.{ConfigOf}
use Rattle.fy_cluster.specs.Execution.{Execution, opened}
use Rattle.fy_c.proofs.Begun.{not_begun, had_none_left}
use Rattle.fy_c.proofs.opening.begun.Goals as goal

pub returns-in_err-config-clause-refused : goal.returns-in_err-config-clause-refused
returns-in_err-config-clause-refused c =
    let p = err_from_is_err_and c.from_residual.result c.from_residual.ensures.1 in
    rw (p.1, p.2)
    (not_begun c.args.config.now c.read_config.result c.in_err-config.field-0.0
    (c.branch-config.ensures ∙ ap result_from_control_flow c.in_err-config.is)
    c.read_config.ensures.too_long c.read_config.ensures.not_text c.in_err-config.ensures.answers)

pub returns-clause-begun : goal.returns-clause-begun
returns-clause-begun c =
    let is = c.in_ok-make.ensures in (
      subst (λ (it : Execution). ConfigOf c.args.config.now (Ok it.setup)) (sym is)
          c.in_ok-config.ensures.answers,
      is ∙ ap (λ (it : Execution). opened it.setup) (sym is),
    )

pub returns-clause-asked : goal.returns-clause-asked
returns-clause-asked c =
    had_none_left c.args.config.now c.read_config.result c.in_ok-config.config
    (c.branch-config.ensures ∙ ap result_from_control_flow c.in_ok-config.is)
    c.read_config.ensures.too_long c.read_config.ensures.not_text

pub returns-in_err-make-clause-refused : goal.returns-in_err-make-clause-refused
returns-in_err-make-clause-refused c =
    let p = err_from_is_err_and c.from_residual-in_err-make.result
    c.from_residual-in_err-make.ensures.1 in
    rw (p.1, p.2)
    (had_none_left c.args.config.now c.read_config.result c.in_ok-config.config
    (c.branch-config.ensures ∙ ap result_from_control_flow c.in_ok-config.is)
    c.read_config.ensures.too_long c.read_config.ensures.not_text)
