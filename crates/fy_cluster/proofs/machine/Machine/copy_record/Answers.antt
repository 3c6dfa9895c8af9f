use Rattle.std.proofs.Common.{Ok, Err, true, false, ◌∙◌, sym, arith}
use Rattle.fy_net.specs.declared.fault.NetFault.TheVariants.{NoMemory}
use Rattle.fy_acts.specs.declared.act.Act.TheVariants.{CopyTo}
use Rattle.fy_cluster.proofs.Results.{told}
use Rattle.fy_cluster.proofs.Room.{few_sent, no_room_left, reserved_is}
use Rattle.fy_cluster.proofs.Starts.{left_tells, up_tells}
use Rattle.fy_cluster.proofs.Needed.{has_is}
use Rattle.fy_cluster.proofs.CopyTo.{Between, MayCopy, not_begun, is_begun, past_one, within_both, no_record_to_copy, one_missing, to_gone, from_down, no_copy, copy_full, copies}
use Rattle.fy_cluster.proofs.machine.Machine.copy_record.Goals as goal

pub returns-in_default : goal.returns-in_default
returns-in_default g c = no_record_to_copy g.point c.args.rec c.args.from c.args.to _ c.requires.0 (not_begun g.point.before c.args.self.now c.requires.0.teams c.args.rec c.in_default.ensures)

pub returns-then-max-len : goal.returns-then-max-len
returns-then-max-len g c =
    one_missing g.point c.args.rec c.args.from c.args.to _ c.requires.0
    (is_begun g.point.before c.args.self.now c.requires.0.teams c.args.rec c.in-Some._team c.in-Some.ensures)
    (past_one g.point.setup c.args.map.now c.args.from.0 c.args.to.0 c.max.result c.requires.1.0 c.max.ensures (omega arith))

pub returns-then-not-contains : goal.returns-then-not-contains
returns-then-not-contains g c =
    let there = within_both g.point.setup c.args.map.now c.args.from.0 c.args.to.0 c.max.result c.requires.1.0 c.max.ensures (omega arith) in
    let between : Between g.point c.args.rec c.args.from c.args.to = record { begun = is_begun g.point.before c.args.self.now c.requires.0.teams c.args.rec c.in-Some._team c.in-Some.ensures; from_there = there.0; to_there = there.1 } in
    to_gone g.point c.args.rec c.args.from c.args.to _ c.requires.0 between
    (left_tells g.point _ c.requires.0 c.args.to.0 there.1 c.left.result c.left.ensures.left false c.contains.result c.contains.ensures c.if-not-contains.true)

pub returns-then-not-contains-2 : goal.returns-then-not-contains-2
returns-then-not-contains-2 g c =
    let there = within_both g.point.setup c.args.map.now c.args.from.0 c.args.to.0 c.max.result c.requires.1.0 c.max.ensures (omega arith) in
    let between : Between g.point c.args.rec c.args.from c.args.to = record { begun = is_begun g.point.before c.args.self.now c.requires.0.teams c.args.rec c.in-Some._team c.in-Some.ensures; from_there = there.0; to_there = there.1 } in
    from_down g.point c.args.rec c.args.from c.args.to _ c.requires.0 between
    (left_tells g.point _ c.requires.0 c.args.to.0 there.1 c.left.result c.left.ensures.left true c.contains.result c.contains.ensures c.if-not-contains.false)
    (up_tells g.point _ c.requires.0 c.args.from.0 there.0 false c.contains-2.result c.contains-2.ensures c.if-not-contains-2.true)

pub returns-then-not-has_synced : goal.returns-then-not-has_synced
returns-then-not-has_synced g c =
    let there = within_both g.point.setup c.args.map.now c.args.from.0 c.args.to.0 c.max.result c.requires.1.0 c.max.ensures (omega arith) in
    let between : Between g.point c.args.rec c.args.from c.args.to = record { begun = is_begun g.point.before c.args.self.now c.requires.0.teams c.args.rec c.in-Some._team c.in-Some.ensures; from_there = there.0; to_there = there.1 } in
    no_copy g.point c.args.rec c.args.from c.args.to _ c.requires.0 between
    (left_tells g.point _ c.requires.0 c.args.to.0 there.1 c.left.result c.left.ensures.left true c.contains.result c.contains.ensures c.if-not-contains.false)
    (up_tells g.point _ c.requires.0 c.args.from.0 there.0 true c.contains-2.result c.contains-2.ensures c.if-not-contains-2.false)
    (sym (has_is g.point.setup g.point.before c.args.self.now c.requires.0 c.args.rec c.args.from.0 there.0) ∙ sym c.has_synced.ensures ∙ c.if-not-has_synced.true)

pub reserve-requires : goal.reserve-requires
reserve-requires g c = few_sent g.point.setup g.point.before c.args.self.now.net c.requires.1.1 c.requires.0.net

pub returns-in-Err : goal.returns-in-Err
returns-in-Err g c =
    let there = within_both g.point.setup c.args.map.now c.args.from.0 c.args.to.0 c.max.result c.requires.1.0 c.max.ensures (omega arith) in
    let may : MayCopy g.point c.args.rec c.args.from c.args.to = record {
      between = record { begun = is_begun g.point.before c.args.self.now c.requires.0.teams c.args.rec c.in-Some._team c.in-Some.ensures; from_there = there.0; to_there = there.1 };
      still = left_tells g.point _ c.requires.0 c.args.to.0 there.1 c.left.result c.left.ensures.left true c.contains.result c.contains.ensures c.if-not-contains.false;
      awake = up_tells g.point _ c.requires.0 c.args.from.0 there.0 true c.contains-2.result c.contains-2.ensures c.if-not-contains-2.false;
      holds = sym (has_is g.point.setup g.point.before c.args.self.now c.requires.0 c.args.rec c.args.from.0 there.0) ∙ sym c.has_synced.ensures ∙ c.if-not-has_synced.false;
    } in
    rw c.reply_to_net_fault.ensures
    (no_room_left g.point (CopyTo c.args.from c.args.rec c.args.to) 1 c.args.self.now c.reserve.new.self c.in-Err.fault c.requires.0
    (copy_full g.point c.args.rec c.args.from c.args.to may)
    (told _ NoMemory (Err c.in-Err.fault) c.in-Err.ensures.refused c.in-Err.ensures.memory)
    c.in-Err.ensures.err)

pub returns : goal.returns
returns g c =
    let there = within_both g.point.setup c.args.map.now c.args.from.0 c.args.to.0 c.max.result c.requires.1.0 c.max.ensures (omega arith) in
    let may : MayCopy g.point c.args.rec c.args.from c.args.to = record {
      between = record { begun = is_begun g.point.before c.args.self.now c.requires.0.teams c.args.rec c.in-Some._team c.in-Some.ensures; from_there = there.0; to_there = there.1 };
      still = left_tells g.point _ c.requires.0 c.args.to.0 there.1 c.left.result c.left.ensures.left true c.contains.result c.contains.ensures c.if-not-contains.false;
      awake = up_tells g.point _ c.requires.0 c.args.from.0 there.0 true c.contains-2.result c.contains-2.ensures c.if-not-contains-2.false;
      holds = sym (has_is g.point.setup g.point.before c.args.self.now c.requires.0 c.args.rec c.args.from.0 there.0) ∙ sym c.has_synced.ensures ∙ c.if-not-has_synced.false;
    } in
    copies g.point c.args.rec c.args.from c.args.to c.args.self.now c.reserve.new.self c.send-message.result c.send-message.new.self c.requires.0 may
    (told _ NoMemory (Ok c.in_default-reserve.field-0) c.in_default-reserve.ensures.refused c.in_default-reserve.ensures.memory)
    (reserved_is c.args.self.now.net c.reserve.new.self _ c.in_default-reserve.ensures.ok)
    c.send-message.ensures.number
    c.send-message.ensures.sent
