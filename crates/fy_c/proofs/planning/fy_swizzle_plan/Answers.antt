use Rattle.std.proofs.Common.{◌∙◌, ap, subst}
use Rattle.fy_cluster.specs.Execution.{Execution}
use Rattle.fy_cluster.specs.Setup.{Setup}
use Rattle.fy_c.specs.Planning.{Plans, IsSwizzleOf}
use Rattle.fy_c.specs.Statuses.{ending}
use Rattle.fy_c.proofs.Drawn.{given}
use Rattle.fy_c.proofs.planning.fy_swizzle_plan.Goals as goal

pub returns-clause-planned : goal.returns-clause-planned
returns-clause-planned c =
    let status = ending c.give.result in (
      status,
      c.number_of.ensures,
      subst
          (λ them. Plans (IsSwizzleOf them c.args.seed c.args.stream c.args.ticks)
          c.args.orders.now c.give.new.buffer c.give.new.told status)
          (c.map.ensures
          ∙ ap (λ (it : Setup). it.processes) c.config.ensures
          ∙ ap (λ (it : Execution). it.setup.processes) c.cluster.ensures.value)
          (given (λ it. it.items) _
          (Plans (IsSwizzleOf c.map.result.now c.args.seed c.args.stream c.args.ticks))
          c.swizzle-plan.result c.args.orders.now c.give.new.buffer c.give.new.told status
          (λ it is gives. Plans.planned it.items is gives) c.swizzle-plan.ensures.drawn
          c.swizzle-plan.ensures.none c.give.ensures.given c.give.ensures.none),
    )
