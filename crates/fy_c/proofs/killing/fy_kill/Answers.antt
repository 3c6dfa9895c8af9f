use Rattle.fy_c.specs.Killing.{Given, Kills}
use Rattle.fy_c.proofs.Orders.{kills, tells}
use Rattle.fy_c.proofs.killing.fy_kill.Goals as goal

pub returns-clause-killed : goal.returns-clause-killed
returns-clause-killed c =
    let given : Given = record {
      key = c.args.key;
      value = c.args.value.now;
      kind = c.args.kind;
      floor = c.args.floor;
      tear = c.args.tear;
    } in
    let old = c.args.guard.now.value in
    let new = c.carry_out-answer.new.guard.value in
    tells (Kills old new c.args.actor given) c.carry_out-answer.result c.tell.result _
    (kills old new c.args.actor given c.order_of-order.result c.carry_out-answer.result
    c.order_of-order.ensures.order c.order_of-order.ensures.none c.carry_out-answer.ensures.replied
    c.carry_out-answer.ensures.failed c.carry_out-answer.ensures.not_given)
    c.tell.ensures.status c.tell.ensures.told c.tell.ensures.none
