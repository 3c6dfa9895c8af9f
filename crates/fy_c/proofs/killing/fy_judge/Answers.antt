use Rattle.std.proofs.Common.{subst}
use Rattle.fy_c.specs.Killing.{Given, Judges}
use Rattle.fy_c.proofs.Orders.{HoldsOf, judges, tells}
use Rattle.fy_c.proofs.killing.fy_judge.Goals as goal

pub returns-clause-judged : goal.returns-clause-judged
returns-clause-judged c =
    let given : Given = record {
      key = c.args.key;
      value = c.args.value.now;
      kind = c.args.kind;
      floor = c.args.floor;
      tear = 0;
    } in
    let answer = c.expected_reply-answer in
    tells (Judges c.args.guard.now.value c.args.actor given) answer.result c.tell.result _
    (subst (λ execution. HoldsOf (Judges execution c.args.actor given) answer.result)
    c.cluster.ensures.value
    (judges c.cluster.result.now c.args.actor given c.order_of-order.result answer.result
    c.order_of-order.ensures.order c.order_of-order.ensures.none answer.ensures.given
    answer.ensures.not_given))
    c.tell.ensures.status c.tell.ensures.told c.tell.ensures.none
