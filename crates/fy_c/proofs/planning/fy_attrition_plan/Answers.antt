use Rattle.std.proofs.Common.{◌∙◌, ap, subst}
use Rattle.fy_cluster.specs.Execution.{Execution}
use Rattle.fy_cluster.specs.Setup.{Setup}
use Rattle.fy_c.specs.Planning.{Plans, PlansAttrition}
use Rattle.fy_c.specs.Statuses.{ending}
use Rattle.fy_c.specs.declared.planning.Asked.{Asked}
use Rattle.fy_c.proofs.Drawn.{given}
use Rattle.fy_c.proofs.planning.fy_attrition_plan.Goals as goal

pub returns-clause-planned : goal.returns-clause-planned
returns-clause-planned c =
    let asked : Asked = record {
      seed = c.args.seed;
      stream = c.args.stream;
      to_kill = c.args.to_kill;
      to_leave = c.args.to_leave;
      kind = c.args.kind;
      floor = c.args.floor;
      tear = c.args.tear;
    } in
    let status = ending c.give.result in (
      status,
      c.number_of.ensures,
      subst
          (λ them. PlansAttrition them asked c.args.orders.now c.give.new.buffer c.give.new.told
          status)
          (c.map.ensures
          ∙ ap (λ (it : Setup). it.processes) c.config.ensures
          ∙ ap (λ (it : Execution). it.setup.processes) c.cluster.ensures.value)
          (given (λ it. it.items) _ (PlansAttrition c.map.result.now asked) c.attrition-plan.result
          c.args.orders.now c.give.new.buffer c.give.new.told status
          (λ it is gives.
          PlansAttrition.asked_for is.0 is.1 is.2 (Plans.planned it.items is.3 gives))
          c.attrition-plan.ensures.drawn c.attrition-plan.ensures.none c.give.ensures.given
          c.give.ensures.none),
    )
