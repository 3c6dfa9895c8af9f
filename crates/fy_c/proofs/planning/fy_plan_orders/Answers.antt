use Rattle.std.proofs.Common.{◌∙◌, ap, length, refl, subst, sym}
use Rattle.fy_cluster.specs.Execution.{Execution}
use Rattle.fy_cluster.specs.Setup.{Setup}
use Rattle.fy_c.specs.Planning.{AreOrdersOf, FillsWithOrders}
use Rattle.fy_c.specs.declared.status.Status.TheVariants.{Done, NoMemory, Argument}
use Rattle.fy_c.proofs.planning.fy_plan_orders.Goals as goal

pub returns-in_default-clause-filled : goal.returns-in_default-clause-filled
returns-in_default-clause-filled c =
    (Argument, c.number.ensures, FillsWithOrders.no_plan c.in_default.ensures.none refl)

pub returns-in_default-plan_orders-clause-filled :
    goal.returns-in_default-plan_orders-clause-filled
returns-in_default-plan_orders-clause-filled c = (
  NoMemory,
  c.number-in_default-plan_orders.ensures,
  FillsWithOrders.no_memory c.in-Some.plan c.in-Some.ensures.some refl,
)

pub returns-clause-filled : goal.returns-clause-filled
returns-clause-filled c =
    let plan = c.in-Some.plan in
    let count = length c.args.orders.now in (
      Done,
      c.number-2.ensures,
      FillsWithOrders.filled plan c.in-Some.ensures.some
          (subst (λ orders. AreOrdersOf c.args.guard.now.value.setup.processes plan c.args.seed
          c.args.actor count orders) (sym (c.copy_from_slice.ensures.after ∙ c.deref.ensures.value))
          (subst (λ them. AreOrdersOf them plan c.args.seed c.args.actor count c.in-Ok.made.items)
          (c.map-map.ensures
          ∙ ap (λ (it : Setup). it.processes) c.config.ensures
          ∙ ap (λ (it : Execution). it.setup.processes) c.cluster.ensures.value)
          c.in-Ok.ensures)),
    )
