use Rattle.std.proofs.Common.{◌≡◌, map, take}
use Rattle.fy_c.specs.Planning.{kill_of}
use Rattle.fy_c.proofs.planning.kill_orders.Given as goal

abbrev pub invariant-loop-machine : goal.invariant-loop-machine
invariant-loop-machine l =
    l.orders.items ≡ map (kill_of l.kind l.floor l.tear) (take l.machine-index l.machines)
