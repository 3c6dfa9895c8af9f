use Rattle.fy_questions.specs.Told.{hardest_on}
use Rattle.fy_questions.proofs.Ranges.{one_more}
use Rattle.fy_questions.proofs.states.hardest.Goals as goal

pub loop-p-preserved : goal.loop-p-preserved
loop-p-preserved c =
    one_more (hardest_on c.args.cluster.now c.args.by) c.loop-p.p c.loop-p.kinds.items
    c.push.new.self.items c.hardest_on.result c.loop-p.invariant c.in_ok-push.ensures.items
    c.hardest_on.ensures
