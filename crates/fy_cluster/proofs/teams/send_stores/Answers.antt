use Rattle.std.proofs.lemmas.Option.{slice_get-get_or}
use Rattle.fy_net.specs.declared.message.Body.TheVariants.{Store}
use Rattle.fy_cluster.proofs.Sending.{sent_next, room_left}
use Rattle.fy_cluster.proofs.teams.send_stores.Goals as goal

pub loop-p-preserved : goal.loop-p-preserved
loop-p-preserved c =
    sent_next (λ p. Store c.args.rec p) c.args.members.now c.args.net.now c.loop-p.net c.send-number.new.self c.loop-p.p-index _
    (slice_get-get_or c.args.members.now c.loop-p.p-index _ c.loop-p-test.true)
    (room_left (λ p. Store c.args.rec p) c.args.members.now c.args.net.now c.loop-p.net c.loop-p.p-index c.loop-p-test.true c.requires.room c.loop-p.invariant)
    c.send-number.ensures.sent
    c.loop-p.invariant
