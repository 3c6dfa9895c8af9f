use Rattle.std.proofs.Common.{rules, ◌∙◌, ap}
use Rattle.fy_actors.specs.Desk.{DeskState, Worked}
use Rattle.fy_shared.proofs.Turning.{placed, sees, grown}
use Rattle.fy_shared.proofs.AtDesk.{does_as, rose, worked_at, at_desk, turned}
use Rattle.fy_shared.proofs.yard.Shared.with_desk.Goals as goal

pub return_desk-requires-clause-grown : goal.return_desk-requires-clause-grown
return_desk-requires-clause-grown g c =
    let r =
    rose _ _ _ _ _ _ c.seat.view_is c.take_place-place.ensures.left c.take_place-place.ensures.is
    c.take_place-place.ensures.place in
    let does = does_as g.F.FnOnce c.args.work _ _ _ _ _ c.work-answer.ensures in
    let worked = c.requires.works _ _ _ _ _ does in
    let q = (c.draw_ticket-ticket.ensures.waits).same in
    let s = (c.wait_for_desk-desk.ensures.served).same in
    grown _ _ _ _ _ _ _ _ _ _ c.wait_for_desk-desk.ensures.served
    (s.actor ∙ (q.actor ∙ (r.0).actor)) c.sit.ensures.desk worked c.sit-2.ensures.desk

pub invariant_of-seat : goal.invariant_of-seat
invariant_of-seat g c =
    let r =
    rose _ _ _ _ _ _ c.seat.view_is c.take_place-place.ensures.left c.take_place-place.ensures.is
    c.take_place-place.ensures.place in
    let does = does_as g.F.FnOnce c.args.work _ _ _ _ _ c.work-answer.ensures in
    let worked = c.requires.works _ _ _ _ _ does in
    let d =
    worked_at c.take_place-place.result c.draw_ticket-ticket.new.place.me c.wait_for_desk-desk.new.place.me
    c.return_desk.new.place.me _ c.wait_for_desk-desk.result c.sit.new.self c.work-answer.new.arg3
    c.sit-2.new.self c.seat.inside.actor _ c.seat.inside.receipts.items
    c.sit-2.new.receipts.items _ r.0 c.draw_ticket-ticket.ensures.waits c.wait_for_desk-desk.ensures.served
    c.sit.ensures.desk worked c.sit-2.ensures.desk c.sit-2.ensures.list c.return_desk.ensures.seen
    c.return_desk.ensures.legal in
    placed _ _ _ _ _ _ d

pub returns-clause-sees : goal.returns-clause-sees
returns-clause-sees g c =
    let r =
    rose _ _ _ _ _ _ c.seat.view_is c.take_place-place.ensures.left c.take_place-place.ensures.is
    c.take_place-place.ensures.place in
    let does = does_as g.F.FnOnce c.args.work _ _ _ _ _ c.work-answer.ensures in
    let worked = c.requires.works _ _ _ _ _ does in
    let d =
    worked_at c.take_place-place.result c.draw_ticket-ticket.new.place.me c.wait_for_desk-desk.new.place.me
    c.return_desk.new.place.me _ c.wait_for_desk-desk.result c.sit.new.self c.work-answer.new.arg3
    c.sit-2.new.self c.seat.inside.actor _ c.seat.inside.receipts.items
    c.sit-2.new.receipts.items _ r.0 c.draw_ticket-ticket.ensures.waits c.wait_for_desk-desk.ensures.served
    c.sit.ensures.desk worked c.sit-2.ensures.desk c.sit-2.ensures.list c.return_desk.ensures.seen
    c.return_desk.ensures.legal in
    sees c.args.self.now c.args.seat.now c.seat.inside.actor c.seat.inside.receipts.items
    c.sit-2.new.receipts.items c.take_place-place.result _ c.return_desk.new.place.me c.wait_for_desk-desk.result
    c.sit-2.new.self.journal c.journals_survive.ensures (search rules) r.1 c.requires.seat d

pub returns-clause-turned : goal.returns-clause-turned
returns-clause-turned g c =
    let r =
    rose _ _ _ _ _ _ c.seat.view_is c.take_place-place.ensures.left c.take_place-place.ensures.is
    c.take_place-place.ensures.place in
    let does = does_as g.F.FnOnce c.args.work _ _ _ _ _ c.work-answer.ensures in
    let worked = c.requires.works _ _ _ _ _ does in
    let d =
    worked_at c.take_place-place.result c.draw_ticket-ticket.new.place.me c.wait_for_desk-desk.new.place.me
    c.return_desk.new.place.me _ c.wait_for_desk-desk.result c.sit.new.self c.work-answer.new.arg3
    c.sit-2.new.self c.seat.inside.actor _ c.seat.inside.receipts.items
    c.sit-2.new.receipts.items _ r.0 c.draw_ticket-ticket.ensures.waits c.wait_for_desk-desk.ensures.served
    c.sit.ensures.desk worked c.sit-2.ensures.desk c.sit-2.ensures.list c.return_desk.ensures.seen
    c.return_desk.ensures.legal in
    turned c.args.self.now c.args.seat.now _
    (at_desk c.args.self.now c.args.seat.now c.seat.inside.actor c.seat.inside.receipts.items
    c.sit-2.new.receipts.items c.take_place-place.result _ c.draw_ticket-ticket.new.place.me
    c.wait_for_desk-desk.new.place.me c.return_desk.new.place.me _ c.wait_for_desk-desk.result c.sit.new.self
    c.work-answer.new.arg3 c.sit-2.new.self.journal (λ b b'. Worked b b') r.1 c.requires.seat r.0
    c.draw_ticket-ticket.ensures.waits c.wait_for_desk-desk.ensures.served d c.sit.ensures.desk worked worked
    (ap (λ (b : DeskState). b.journal) c.sit-2.ensures.desk) c.sit-2.ensures.list)

pub returns-clause-did : goal.returns-clause-did
returns-clause-did g c =
    let r =
    rose _ _ _ _ _ _ c.seat.view_is c.take_place-place.ensures.left c.take_place-place.ensures.is
    c.take_place-place.ensures.place in
    let does = does_as g.F.FnOnce c.args.work _ _ _ _ _ c.work-answer.ensures in
    let worked = c.requires.works _ _ _ _ _ does in
    let d =
    worked_at c.take_place-place.result c.draw_ticket-ticket.new.place.me c.wait_for_desk-desk.new.place.me
    c.return_desk.new.place.me _ c.wait_for_desk-desk.result c.sit.new.self c.work-answer.new.arg3
    c.sit-2.new.self c.seat.inside.actor _ c.seat.inside.receipts.items
    c.sit-2.new.receipts.items _ r.0 c.draw_ticket-ticket.ensures.waits c.wait_for_desk-desk.ensures.served
    c.sit.ensures.desk worked c.sit-2.ensures.desk c.sit-2.ensures.list c.return_desk.ensures.seen
    c.return_desk.ensures.legal in
    at_desk c.args.self.now c.args.seat.now c.seat.inside.actor c.seat.inside.receipts.items
    c.sit-2.new.receipts.items c.take_place-place.result _ c.draw_ticket-ticket.new.place.me
    c.wait_for_desk-desk.new.place.me c.return_desk.new.place.me _ c.wait_for_desk-desk.result c.sit.new.self
    c.work-answer.new.arg3 c.sit-2.new.self.journal _ r.1 c.requires.seat r.0
    c.draw_ticket-ticket.ensures.waits c.wait_for_desk-desk.ensures.served d c.sit.ensures.desk worked does
    (ap (λ (b : DeskState). b.journal) c.sit-2.ensures.desk) c.sit-2.ensures.list
