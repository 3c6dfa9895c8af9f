use Rattle.std.proofs.Common.{arith, Ok, Err, ◌∙◌, sym, ap, subst, refl, length, slice_set}
use Rattle.fy_disk.specs.Disk.{Stored, all_synced}
use Rattle.fy_net.specs.declared.fault.NetFault.TheVariants.{NoMemory}
use Rattle.fy_net.specs.Net.{reserve_refusal}
use Rattle.fy_acts.specs.declared.act.Act.TheVariants.{Sync}
use Rattle.fy_cluster.specs.History.{acks_of}
use Rattle.fy_cluster.specs.Standing.{Sends}
use Rattle.fy_cluster.proofs.Starts.{past_processes, within_processes}
use Rattle.fy_cluster.proofs.Results.{told}
use Rattle.fy_cluster.proofs.Room.{few_sent, no_room_left, reserved_is}
use Rattle.fy_cluster.proofs.Syncing.{nobody, is_down, full_reply, synced_now, disk_given, disk_is_stored}
use Rattle.fy_cluster.proofs.machine.Machine.sync.Goals as goal

pub returns-then-process-len : goal.returns-then-process-len
returns-then-process-len g c = nobody g.point c.args.process _ c.requires.0 (past_processes g.point.setup c.args.map.now c.args.process.0 c.requires.1.0 (omega arith))

pub returns-then-not-contains : goal.returns-then-not-contains
returns-then-not-contains g c =
    let there = within_processes g.point.setup c.args.map.now c.args.process.0 c.requires.1.0 (omega arith) in
    is_down g.point c.args.process _ c.requires.0 there.0 (sym (c.requires.0.up.each c.args.process.0 there.1) ∙ sym c.if-not-contains.ensures)

pub reserve-requires : goal.reserve-requires
reserve-requires g c = few_sent g.point.setup g.point.before c.args.self.now.net c.requires.1.1 c.requires.0.net

pub returns-in-Err : goal.returns-in-Err
returns-in-Err g c =
    let there = within_processes g.point.setup c.args.map.now c.args.process.0 c.requires.1.0 (omega arith) in
    rw c.reply_to_net_fault.ensures
    (no_room_left g.point (Sync c.args.process) c.unsynced_len-count.result c.args.self.now c.reserve.new.self c.in-Err.fault c.requires.0
    (full_reply g.point c.args.process c.unsynced_len-count.result there.0 (sym (c.requires.0.up.each c.args.process.0 there.1) ∙ sym c.if-not-contains.ensures)
    (c.unsynced_len-count.ensures ∙ ap (λ (d : Stored). length d.unsynced) (disk_is_stored g.point c.args.self.now c.args.process.0 c.of.result.now c.requires.0 there.1 c.of.ensures)))
    (told _ NoMemory (Err c.in-Err.fault) c.in-Err.ensures.refused c.in-Err.ensures.memory)
    c.in-Err.ensures.err)

pub returns : goal.returns
returns g c =
    let there = within_processes g.point.setup c.args.map.now c.args.process.0 c.requires.1.0 (omega arith) in
    let same = c.of-2.ensures ∙ sym c.of.ensures in
    synced_now g.point c.args.process c.args.self.now c.of.result.now c.reserve.new.self c.send_acks.new.net c.sent-first.result c.unsynced_len-count.result _ c.requires.0 there.0 there.1
    (sym (c.requires.0.up.each c.args.process.0 there.1) ∙ sym c.if-not-contains.ensures)
    (disk_given g.point c.args.self.now c.args.process.0 c.of.result.now c.requires.0 there.1 c.of.ensures)
    (ap (reserve_refusal c.args.self.now.net) (sym c.unsynced_len-count.ensures) ∙ told _ NoMemory (Ok c.in_default.field-0) c.in_default.ensures.refused c.in_default.ensures.memory)
    (reserved_is c.args.self.now.net c.reserve.new.self _ c.in_default.ensures.ok)
    (subst (λ (d : Stored). Sends c.reserve.new.self (acks_of c.args.process d.unsynced) c.send_acks.new.net) same c.send_acks.ensures)
    c.sent-first.ensures
    c.unsynced_len-count.ensures
    refl
    refl
    refl
    refl
    refl
    (c.sync.ensures.synced ∙ ap (λ d. slice_set c.args.self.now.disks c.args.process.0 (all_synced d)) (sym c.of.ensures))
