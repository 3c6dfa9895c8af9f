use Rattle.std.proofs.Common.{◌∙◌, ap, refl}
use Rattle.std.proofs.lemmas.Result.{err_from_is_err_and}
use Rattle.fy_actors.specs.Schedules.{attrition_acts}
use Rattle.fy_c.specs.Planning.{orders_of, Plans, PlansAttrition}
use Rattle.fy_c.proofs.planning.attrition.Goals as goal

pub returns-in_err-kind-clause-none : goal.returns-in_err-kind-clause-none
returns-in_err-kind-clause-none c =
    let p = err_from_is_err_and c.from_residual.result c.from_residual.ensures.1 in
    rw (p.1, p.2) (λ orders. PlansAttrition.not_asked c.in_err-kind.ensures.none refl refl)

pub returns-in_err-plan-clause-none : goal.returns-in_err-plan-clause-none
returns-in_err-plan-clause-none c =
    let p = err_from_is_err_and c.from_residual-in_err-plan.result
    c.from_residual-in_err-plan.ensures.1 in
    rw (p.1, p.2)
    (λ orders. PlansAttrition.asked_for c.in_ok-kind.kind c.in_ok-kind.floor
    c.in_ok-kind.ensures.kinds (Plans.no_memory refl refl refl))

pub returns-in_err-kill_orders-clause-none : goal.returns-in_err-kill_orders-clause-none
returns-in_err-kill_orders-clause-none c =
    let p = err_from_is_err_and c.from_residual-in_err-kill_orders.result
    c.from_residual-in_err-kill_orders.ensures.1 in
    rw (p.1, p.2)
    (λ orders. PlansAttrition.asked_for c.in_ok-kind.kind c.in_ok-kind.floor
    c.in_ok-kind.ensures.kinds (Plans.no_memory refl refl refl))

pub returns-clause-drawn : goal.returns-clause-drawn
returns-clause-drawn c =
    let are = c.in_ok-kind.ensures.kinds in (
      c.in_ok-kind.kind,
      c.in_ok-kind.floor,
      are,
      record {
        orders_are = c.in_ok-kill_orders.ensures are.ordered
            ∙ ap (λ machines. orders_of
            (attrition_acts c.in_ok-kind.kind c.in_ok-kind.floor c.args.asked.tear are.ordered machines))
            (c.deref.ensures.value ∙ c.in_ok-plan.ensures);
      },
    )
