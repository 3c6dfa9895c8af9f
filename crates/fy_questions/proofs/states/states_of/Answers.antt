use Rattle.fy_questions.specs.Told.{state_of}
use Rattle.fy_questions.proofs.Ranges.{one_more}
use Rattle.fy_questions.proofs.states.states_of.Goals as goal

pub loop-p-preserved : goal.loop-p-preserved
loop-p-preserved c =
    one_more (state_of c.args.cluster.now) c.loop-p.p c.loop-p.states.items
    c.push.new.self.items c.state_of.result c.loop-p.invariant c.in_ok-push.ensures.items
    c.state_of.ensures
