use Rattle.std.proofs.Common.{◌≡◌, Ok, Err, length, ◌∙◌, sym, ap, subst}
use Rattle.fy_net.specs.declared.fault.NetFault.TheVariants.{NoMemory}
use Rattle.fy_net.specs.Net.{NetState}
use Rattle.fy_team.specs.Teams.{Roster, members_in}
use Rattle.fy_acts.specs.declared.act.Act.TheVariants.{Begin}
use Rattle.fy_acts.specs.declared.reply.Reply.TheVariants.{Begun}
use Rattle.fy_cluster.specs.History.{stores_of}
use Rattle.fy_cluster.specs.Standing.{Sends, StepsTo}
use Rattle.fy_cluster.proofs.Results.{told, told_all}
use Rattle.fy_cluster.proofs.Room.{few_sent, no_room_left, reserved_is}
use Rattle.fy_cluster.proofs.Resent.{Fits, fits, unfit_begin, no_members, members_are, members_known, begin_full, begins_now, there_all}
use Rattle.fy_cluster.proofs.machine.Machine.begin.Goals as goal

pub returns-in-Err : goal.returns-in-Err
returns-in-Err g c = rw c.reply_to_fault.ensures (unfit_begin g.point c.args.team c.args.payload _ c.in-Err.fault c.requires.0 (told_all _ (Err c.in-Err.fault) c.in-Err.ensures.refused c.in-Err.ensures.accepted))

pub unreachable-requires : goal.unreachable-requires
unreachable-requires g c =
    no_members g.point c.args.team c.args.payload c.args.self.now c.requires.0
    (fits g.point.before c.args.self.now.teams c.args.team c.args.payload c.requires.0.teams (told_all _ (Ok c.in_default.field-0) c.in_default.ensures.refused c.in_default.ensures.accepted))
    c.in-None.ensures

pub reserve-requires : goal.reserve-requires
reserve-requires g c = few_sent g.point.setup g.point.before c.args.self.now.net c.requires.1 c.requires.0.net

pub returns-in-Err-reserve : goal.returns-in-Err-reserve
returns-in-Err-reserve g c =
    let fit : Fits g.point.before c.args.team c.args.payload = fits g.point.before c.args.self.now.teams c.args.team c.args.payload c.requires.0.teams (told_all _ (Ok c.in_default.field-0) c.in_default.ensures.refused c.in_default.ensures.accepted) in
    rw (c.reply_to_net_fault.ensures, c.open.ensures)
    (no_room_left g.point (Begin c.args.team c.args.payload) (length c.as_slice.result.now) c.args.self.now c.reserve.new.self c.in-Err-reserve.fault c.requires.0
    (begin_full g.point c.args.team c.args.payload c.in-Some.members.now (length c.as_slice.result.now) fit (members_are g.point c.args.team c.in-Some.members.now c.args.self.now c.requires.0 c.in-Some.ensures) (ap length c.as_slice.ensures.members))
    (told _ NoMemory (Err c.in-Err-reserve.fault) c.in-Err-reserve.ensures.refused c.in-Err-reserve.ensures.memory)
    c.in-Err-reserve.ensures.err)

pub send_stores-requires-clause-there : goal.send_stores-requires-clause-there
send_stores-requires-clause-there g c =
    there_all (length g.point.setup.processes) (length c.reserve.new.self.until) c.in-Some-members.members.now c.as_slice-in-Some-members.result.now
    (sym (ap (λ (n : NetState). length n.until) c.in_default-reserve.ensures.ok ∙ c.requires.0.net.count))
    (sym c.as_slice-in-Some-members.ensures.members)
    (members_known c.test_is_satisfaction.ensures g.point c.args.self.now c.requires.0 c.requires.1 c.args.team c.in-Some-members.members.now (c.in-Some-members.ensures ∙ ap (λ (r : Roster). members_in r c.args.team) c.in-Ok.ensures.begun))

pub returns : goal.returns
returns g c =
    let fit : Fits g.point.before c.args.team c.args.payload = fits g.point.before c.args.self.now.teams c.args.team c.args.payload c.requires.0.teams (told_all _ (Ok c.in_default.field-0) c.in_default.ensures.refused c.in_default.ensures.accepted) in
    let one = members_are g.point c.args.team c.in-Some.members.now c.args.self.now c.requires.0 c.in-Some.ensures in
    let two = members_are g.point c.args.team c.in-Some-members.members.now c.args.self.now c.requires.0 (c.in-Some-members.ensures ∙ ap (λ (r : Roster). members_in r c.args.team) c.in-Ok.ensures.begun) in
    let same : c.as_slice-in-Some-members.result.now ≡ c.in-Some.members.now = c.as_slice-in-Some-members.ensures.members ∙ sym two ∙ one in
    subst (λ disks. StepsTo g.point (Begin c.args.team c.args.payload) (Begun c.in-Ok.rec c.sent-first.result) (record { dead = c.args.self.now.dead; book = c.args.self.now.book; disks = disks; up = c.args.self.now.up; net = c.send_stores.new.net; teams = c.begin.new.self })) (sym c.open.ensures)
    (begins_now c.a_record_begins_unmarked.ensures.marks c.a_record_begins_unmarked.ensures.acked g.point c.args.team c.args.payload c.in-Some.members.now c.args.self.now c.reserve.new.self c.send_stores.new.net c.begin.new.self c.in-Ok.rec c.sent-first.result (length c.as_slice.result.now) c.requires.0 fit
    one
    (ap length c.as_slice.ensures.members)
    (told _ NoMemory (Ok c.in_default-reserve.field-0) c.in_default-reserve.ensures.refused c.in_default-reserve.ensures.memory)
    (reserved_is c.args.self.now.net c.reserve.new.self _ c.in_default-reserve.ensures.ok)
    c.in-Ok.ensures.number
    c.in-Ok.ensures.begun
    c.sent-first.ensures
    (subst (λ ps. Sends c.reserve.new.self (stores_of c.in-Ok.rec ps) c.send_stores.new.net) same c.send_stores.ensures))
