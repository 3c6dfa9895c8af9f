use Rattle.std.proofs.Common.{sym, arith}
use Rattle.fy_net.specs.declared.message.Body.TheVariants.{Synced}
use Rattle.fy_cluster.proofs.Sending.{sent_next, room_left}
use Rattle.fy_cluster.proofs.messages.send_acks.Goals as goal

pub loop-place-preserved : goal.loop-place-preserved
loop-place-preserved c =
    sent_next (λ item. Synced item.rec c.args.process) c.args.disk.now.unsynced c.args.net.now c.loop-place.net c.send-number.new.self c.loop-place.place c.in-Some.item.now
    (sym c.in-Some.ensures)
    (room_left (λ item. Synced item.rec c.args.process) c.args.disk.now.unsynced c.args.net.now c.loop-place.net c.loop-place.place (omega arith) c.requires.room c.loop-place.invariant)
    c.send-number.ensures.sent
    c.loop-place.invariant
