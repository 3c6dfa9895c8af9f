use Rattle.std.proofs.Common.{Ok, Err, ◌∙◌, sym}
use Rattle.fy_net.specs.declared.fault.NetFault.TheVariants.{NoMemory}
use Rattle.fy_acts.specs.declared.act.Act.TheVariants.{Resend}
use Rattle.fy_cluster.proofs.Results.{told}
use Rattle.fy_cluster.proofs.Room.{few_sent, no_room_left, reserved_is}
use Rattle.fy_cluster.proofs.Resent.{IsOf, no_record, is_of, member_known, team_missing, not_member, is_acked_already, resend_full, resends}
use Rattle.fy_cluster.proofs.machine.Machine.resend.Goals as goal

pub returns-in_default : goal.returns-in_default
returns-in_default g c = no_record g.point c.args.rec c.args.process _ c.requires.0 c.in_default.ensures

pub unreachable-requires : goal.unreachable-requires
unreachable-requires g c = team_missing c.test_is_satisfaction.ensures g.point c.args.self.now c.requires.0 c.requires.1 c.args.rec c.in-Some.team c.in-Some.ensures c.in_default-members.ensures

pub returns-then-not-has : goal.returns-then-not-has
returns-then-not-has g c =
    let is : IsOf g.point.before c.args.rec c.in-Some-members.members.now = is_of g.point.before c.args.self.now.teams c.requires.0.teams c.args.rec c.in-Some.team c.in-Some-members.members.now c.in-Some.ensures c.in-Some-members.ensures in
    not_member g.point c.args.rec c.args.process c.in-Some-members.members.now _ c.requires.0 is (sym c.if-not-has.ensures)

pub returns-then-acked : goal.returns-then-acked
returns-then-acked g c =
    let is : IsOf g.point.before c.args.rec c.in-Some-members.members.now = is_of g.point.before c.args.self.now.teams c.requires.0.teams c.args.rec c.in-Some.team c.in-Some-members.members.now c.in-Some.ensures c.in-Some-members.ensures in
    is_acked_already g.point c.args.rec c.args.process c.in-Some-members.members.now _ c.requires.0 is (sym c.if-not-has.ensures)
    (sym (c.requires.0.teams.acked c.args.rec) ∙ sym c.acked.ensures ∙ c.if-acked.true)

pub reserve-requires : goal.reserve-requires
reserve-requires g c = few_sent g.point.setup g.point.before c.args.self.now.net c.requires.1 c.requires.0.net

pub returns-in-Err : goal.returns-in-Err
returns-in-Err g c =
    let is : IsOf g.point.before c.args.rec c.in-Some-members.members.now = is_of g.point.before c.args.self.now.teams c.requires.0.teams c.args.rec c.in-Some.team c.in-Some-members.members.now c.in-Some.ensures c.in-Some-members.ensures in
    rw c.reply_to_net_fault.ensures
    (no_room_left g.point (Resend c.args.rec c.args.process) 1 c.args.self.now c.reserve.new.self c.in-Err.fault c.requires.0
    (resend_full g.point c.args.rec c.args.process c.in-Some-members.members.now is (sym c.if-not-has.ensures)
    (sym (c.requires.0.teams.acked c.args.rec) ∙ sym c.acked.ensures ∙ c.if-acked.false))
    (told _ NoMemory (Err c.in-Err.fault) c.in-Err.ensures.refused c.in-Err.ensures.memory)
    c.in-Err.ensures.err)

pub send-message-requires-clause-process : goal.send-message-requires-clause-process
send-message-requires-clause-process g c =
    rw c.in_default-reserve.ensures.ok
    (member_known c.test_is_satisfaction.ensures g.point c.args.self.now c.requires.0 c.requires.1 c.in-Some.team c.in-Some-members.members.now c.args.process.0 c.in-Some-members.ensures (sym c.if-not-has.ensures))

pub returns : goal.returns
returns g c =
    let is : IsOf g.point.before c.args.rec c.in-Some-members.members.now = is_of g.point.before c.args.self.now.teams c.requires.0.teams c.args.rec c.in-Some.team c.in-Some-members.members.now c.in-Some.ensures c.in-Some-members.ensures in
    resends g.point c.args.rec c.args.process c.in-Some-members.members.now c.args.self.now c.reserve.new.self c.send-message.result c.send-message.new.self c.requires.0 is (sym c.if-not-has.ensures)
    (sym (c.requires.0.teams.acked c.args.rec) ∙ sym c.acked.ensures ∙ c.if-acked.false)
    (told _ NoMemory (Ok c.in_default-reserve.field-0) c.in_default-reserve.ensures.refused c.in_default-reserve.ensures.memory)
    (reserved_is c.args.self.now.net c.reserve.new.self _ c.in_default-reserve.ensures.ok)
    c.send-message.ensures.number
    c.send-message.ensures.sent
