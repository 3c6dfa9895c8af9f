use Rattle.fy_c.proofs.Drawn.{told_attrition}
use Rattle.fy_c.proofs.planning.kill_orders.Goals as goal

pub returns : goal.returns
returns c = λ ordered.
    told_attrition c.args.kind c.args.floor c.args.tear c.loop-machine.machine-index ordered
    c.args.machines.now c.loop-machine.orders.items c.loop-machine.invariant
    c.loop-machine-test.false
