use Rattle.std.proofs.Common.{◌≤◌, length, subst}
use Rattle.fy_c.proofs.Drawn.{told_swizzle}
use Rattle.fy_c.proofs.planning.swizzle_orders.Goals as goal

pub returns : goal.returns
returns c =
    told_swizzle c.args.map.now c.args.plan.now c.args.ticks c.loop-p-2.p-index
    c.loop-p-2.orders.items c.loop-p-2.invariant
    (subst (λ them. length them ≤ c.loop-p-2.p-index) c.deref-p-items-2.ensures.value
    c.loop-p-2-test.false)
