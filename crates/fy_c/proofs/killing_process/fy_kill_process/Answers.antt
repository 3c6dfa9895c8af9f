use Rattle.fy_c.specs.KillingProcess.{GivenProcess, KillsProcess}
use Rattle.fy_c.proofs.Orders.{tells}
use Rattle.fy_c.proofs.killing_process.fy_kill_process.Goals as goal

pub returns-clause-killed : goal.returns-clause-killed
returns-clause-killed c =
    let given : GivenProcess = record {
      process = c.args.process;
      kind = c.args.kind;
      floor = c.args.floor;
      tear = c.args.tear;
    } in
    let answer = c.kill_process-answer in
    tells (KillsProcess c.args.guard.now.value answer.new.guard.value c.args.actor given)
    answer.result c.tell.result _ (answer.ensures.replied, answer.ensures.failed)
    c.tell.ensures.status c.tell.ensures.told c.tell.ensures.none
