use Rattle.std.proofs.Common.{◌∙◌, ap, sym, map, Some, None}
use Rattle.std.proofs.lemmas.Result.{err_from_is_err_and}
use Rattle.fy_config.specs.Given.{actor_kept}
use Rattle.fy_config.specs.Config.{first_index, is_bad_process, is_bad_protection, bad_name_at, protection_in}
use Rattle.fy_config.specs.Named.{AreNumbered}
use Rattle.fy_config.specs.declared.fault.Part.TheVariants.{Process, Actor, Protect}
use Rattle.fy_config.proofs.Answered.{bad_process, bad_actor, bad_protection, name_answer, roles_kept}
use Rattle.fy_config.proofs.reading.number_parts.Goals as goal

pub returns-in_err-map : goal.returns-in_err-map
returns-in_err-map c f kept =
    let fault = c.in_err-map.field-0.0 in
    let p = err_from_is_err_and c.from_residual.result c.from_residual.ensures.1 in
    rw (p.1, p.2)
    (name_answer Process _ (AreNumbered f) fault
    (c.in_err-map.ensures f.processes (c.deref.ensures.value ∙ kept.processes)) (bad_process f fault))

pub protections_of-requires : goal.protections_of-requires
protections_of-requires c =
    let (f, kept) = c.requires.spelt in
    let (no_process, same) = c.in_ok-map.ensures f.processes (c.deref.ensures.value ∙ kept.processes) in
    ap (first_index is_bad_process) same ∙ no_process

pub returns-in_err-grants : goal.returns-in_err-grants
returns-in_err-grants c f kept =
    let fault = c.in_err-grants.field-0.0 in
    let (no_process, same) = c.in_ok-map.ensures f.processes (c.deref.ensures.value ∙ kept.processes) in
    let p = err_from_is_err_and c.from_residual-in_err-grants.result c.from_residual-in_err-grants.ensures.1 in
    rw (p.1, p.2)
    (name_answer Actor _ (AreNumbered f) fault
    (c.in_err-grants.ensures f.actors (ap (map actor_kept) c.deref-3.ensures.value ∙ kept.actors))
    (bad_actor f fault no_process))

pub returns-in_err-protections : goal.returns-in_err-protections
returns-in_err-protections c f kept =
    let fault = c.in_err-protections.field-0.0 in
    let (no_process, same) = c.in_ok-map.ensures f.processes (c.deref.ensures.value ∙ kept.processes) in
    let (no_actor, grants) = c.in_ok-grants.ensures f.actors (ap (map actor_kept) c.deref-3.ensures.value ∙ kept.actors) in
    let p = err_from_is_err_and c.from_residual-in_err-protections.result c.from_residual-in_err-protections.ensures.1 in
    rw (p.1, p.2)
    (name_answer Protect _ (AreNumbered f) fault
    (c.in_err-protections.ensures f.protections (c.deref-4.ensures.value ∙ kept.protections))
    (λ bad. bad_protection f (Some fault) no_process no_actor
    (ap (λ ps. bad_name_at Protect (first_index (is_bad_protection ps) f.protections)) (sym same) ∙ bad)))

pub returns : goal.returns
returns c f kept =
    let (no_process, same) = c.in_ok-map.ensures f.processes (c.deref.ensures.value ∙ kept.processes) in
    let (no_actor, grants) = c.in_ok-grants.ensures f.actors (ap (map actor_kept) c.deref-3.ensures.value ∙ kept.actors) in
    let (none_bad, protections) = c.in_ok-protections.ensures f.protections (c.deref-4.ensures.value ∙ kept.protections) in
    let no_protection = ap (λ ps. first_index (is_bad_protection ps) f.protections) (sym same) ∙ none_bad in (
      bad_protection f None no_process no_actor (ap (bad_name_at Protect) no_protection),
      record {
        processes = same;
        roles = c.in_ok-roles.ensures ∙ roles_kept c.deref-2.result.now f.actors (ap (map actor_kept) c.deref-2.ensures.value ∙ kept.actors);
        grants = grants;
        protections = protections ∙ ap (λ ps. map (protection_in ps) f.protections) same;
      },
    )
