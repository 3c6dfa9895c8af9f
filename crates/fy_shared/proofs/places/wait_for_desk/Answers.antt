use Rattle.std.proofs.Common.{rules, ◌∙◌, sym, subst}
use Rattle.fy_shared.specs.Turnstile.{SeatView}
use Rattle.fy_shared.specs.Places.{IsWaiting, IsServed}
use Rattle.fy_shared.proofs.Moves.{looks}
use Rattle.fy_shared.proofs.Turning.{came, in_hand, is_desk, served}
use Rattle.fy_shared.proofs.places.wait_for_desk.Goals as goal

pub load-requires : goal.load-requires
load-requires g c =
    let i = c.loop.invariant in
    let w = subst (λ (m : SeatView). IsWaiting m c.args.ticket) (sym i.3) c.requires.waits in
    (i.2 ∙ c.requires.table.0, search rules, looks _ _ _ (search rules) w.holds w.seated)

pub exchange-requires : goal.exchange-requires
exchange-requires g c =
    let i = c.loop.invariant in
    let w = subst (λ (m : SeatView). IsWaiting m c.args.ticket) (sym i.3) c.requires.waits in
    let t =
    came c.loop.place.me c.load.new.seat.me _ _ w c.if-load-ticket.true
    c.load.ensures.2 in (
      c.load.ensures.0 ∙ (i.2 ∙ c.requires.table.0),
      in_hand c.loop.place.me c.load.new.seat.me t,
    )

pub unreachable-requires : goal.unreachable-requires
unreachable-requires g c =
    let i = c.loop.invariant in
    let w = subst (λ (m : SeatView). IsWaiting m c.args.ticket) (sym i.3) c.requires.waits in
    let t =
    came c.loop.place.me c.load.new.seat.me _ _ w c.if-load-ticket.true
    c.load.ensures.2 in
    let e = is_desk c.loop.place.me c.load.new.seat.me _ t c.exchange.ensures.2 in
    search rules

pub returns-then-load-ticket-clause-served : goal.returns-then-load-ticket-clause-served
returns-then-load-ticket-clause-served g c =
    let i = c.loop.invariant in
    let w = subst (λ (m : SeatView). IsWaiting m c.args.ticket) (sym i.3) c.requires.waits in
    let t =
    came c.loop.place.me c.load.new.seat.me _ _ w c.if-load-ticket.true
    c.load.ensures.2 in
    let done =
    served c.loop.place.me c.load.new.seat.me _ _ _ _ w t c.exchange.ensures.2
    c.exchange.ensures.3 c.in-Some-exchange.is in
    subst (λ (m : SeatView). IsServed m.0 c.exchange.new.seat.me c.in-Some-exchange.desk) i.3 done
