use Rattle.std.proofs.Common.{◌∙◌, sym, ap, ap₂, ◌++◌, ◌∷◌, [], List}
use Rattle.fy_acts.specs.declared.act.Act.{Act}
use Rattle.fy_actors.specs.Schedules.{attrition_act}
use Rattle.fy_actors.proofs.Working.{one_order, one_act_more}
use Rattle.fy_actors.proofs.attrition.attrition_acts.Goals as goal

pub loop-machine-preserved : goal.loop-machine-preserved
loop-machine-preserved c = λ ordered.
    let machine = c.machine-item.result in
    let order = c.in-Ok.ensures in
    let f : List _ → Act = attrition_act c.args.kind c.args.floor c.args.tear ordered in
    let one = one_order c.in-Ok.order machine c.args.kind c.args.floor c.args.tear ordered order.target order.kind order.floor order.tear in
    c.in_ok-push.ensures.items
    ∙ ap₂ (λ (xs : List Act) (x : Act). xs ++ x ∷ []) (c.loop-machine.invariant ordered) (one ∙ ap f c.machine-item.is)
    ∙ sym (one_act_more f c.args.machines.now c.loop-machine.machine-index machine c.loop-machine-test.true)
