use Rattle.std.proofs.Common.{◌≡◌, ◌++◌, map, take}
use Rattle.fy_c.specs.Planning.{clog_of, unclog_of}
use Rattle.fy_c.proofs.planning.swizzle_orders.Given as goal

abbrev pub invariant-loop-p : goal.invariant-loop-p
invariant-loop-p l =
    l.orders.items ≡ map (clog_of l.map l.ticks) (take l.p-index l.plan.clogs.items)

abbrev pub invariant-loop-p-2 : goal.invariant-loop-p-2
invariant-loop-p-2 l =
    l.orders.items
    ≡ map (clog_of l.map l.ticks) l.plan.clogs.items
    ++ map (unclog_of l.map) (take l.p-index l.plan.frees.items)
