use Rattle.std.proofs.Common.{◌∙◌, refl}
use Rattle.std.proofs.lemmas.Result.{err_from_is_err_and}
use Rattle.fy_c.specs.Sets.{Targets}
use Rattle.fy_c.proofs.sets.write_targets.Goals as goal

pub returns-in_err-target : goal.returns-in_err-target
returns-in_err-target c =
    let p = err_from_is_err_and c.from_residual.result c.from_residual.ensures.1 in
    rw (p.1, p.2) (Targets.not_given c.in_err-target.field-0.0 c.in_err-target.ensures.none refl)

pub returns : goal.returns
returns c =
    Targets.found c.in_ok-target.target c.in_ok-target.ensures.target
    (λ p. c.write_set.ensures p ∙ c.found.ensures p)
