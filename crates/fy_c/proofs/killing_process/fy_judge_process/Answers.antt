use Rattle.std.proofs.Common.{subst}
use Rattle.fy_c.specs.KillingProcess.{GivenProcess, JudgesProcess}
use Rattle.fy_c.proofs.Orders.{HoldsOf, tells}
use Rattle.fy_c.proofs.killing_process.fy_judge_process.Goals as goal

pub returns-clause-judged : goal.returns-clause-judged
returns-clause-judged c =
    let given : GivenProcess = record {
      process = c.args.process;
      kind = c.args.kind;
      floor = c.args.floor;
      tear = 0;
    } in
    let answer = c.judge_process-answer in
    tells (JudgesProcess c.args.guard.now.value c.args.actor given) answer.result c.tell.result _
    (subst (λ execution. HoldsOf (JudgesProcess execution c.args.actor given) answer.result)
    c.cluster.ensures.value (answer.ensures.replied, answer.ensures.none))
    c.tell.ensures.status c.tell.ensures.told c.tell.ensures.none
