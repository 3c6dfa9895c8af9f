use Rattle.fy_cluster.specs.Asked.{grants_in}
use Rattle.fy_questions.proofs.Ranges.{seen_more}
use Rattle.fy_questions.proofs.answering.grants_of.Goals as goal

pub loop-actor-preserved : goal.loop-actor-preserved
loop-actor-preserved c =
    seen_more c.loop-actor.grants.items c.push.new.self.items c.asked_grants.result
    (λ own. own.now) (grants_in c.args.cluster.now) c.loop-actor.actor c.loop-actor.invariant
    c.in_ok-push.ensures.items c.asked_grants.ensures
