use Rattle.std.proofs.Common.{refl}
use Rattle.std.proofs.lemmas.Result.{err_from_is_err_and}
use Rattle.fy_c.specs.Planning.{Plans}
use Rattle.fy_c.proofs.planning.swizzle.Goals as goal

pub returns-in_err-plan-clause-none : goal.returns-in_err-plan-clause-none
returns-in_err-plan-clause-none c =
    let p = err_from_is_err_and c.from_residual.result c.from_residual.ensures.1 in
    rw (p.1, p.2) (λ orders. Plans.no_memory refl refl refl)

pub returns-in_err-swizzle_orders-clause-none : goal.returns-in_err-swizzle_orders-clause-none
returns-in_err-swizzle_orders-clause-none c =
    let p = err_from_is_err_and c.from_residual-in_err-swizzle_orders.result
    c.from_residual-in_err-swizzle_orders.ensures.1 in
    rw (p.1, p.2) (λ orders. Plans.no_memory refl refl refl)

pub returns-clause-drawn : goal.returns-clause-drawn
returns-clause-drawn c = record {
  plan = c.in_ok-plan.plan;
  drawn = c.in_ok-plan.ensures.drawn;
  orders_are = c.in_ok-swizzle_orders.ensures;
}
