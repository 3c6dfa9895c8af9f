use Rattle.std.proofs.Common.{rules, ◌≡◌, ◌∙◌, sym, ap, Some}
use Rattle.fy_shared.specs.Yard.{SeatState, Yard}
use Rattle.fy_shared.proofs.Moves.{joins}
use Rattle.fy_shared.proofs.Turning.{of_yard}
use Rattle.fy_shared.proofs.Closing.{joining_start, joining_at, joining_next, joining_end}
use Rattle.fy_shared.proofs.yard.gather.Goals as goal

pub loop-i-init : goal.loop-i-init
loop-i-init c =
    let f : SeatState = c.index_mut-first.result.now in
    let of : f.of ≡ Some c.args.shared.now =
    ap (λ (s : SeatState). s.of) c.index_mut-first.ensures.value
    ∙ c.requires.seats 0 f (search rules) in (
      search rules,
      joining_start c.args.shared.now c.args.seats.now.items f c.take_place-place.new.self
          c.take_place-place.result (search rules) c.index_mut-first.ensures.value of
          c.take_place-place.ensures.place c.take_place-place.ensures.is c.take_place-place.ensures.left,
    )

pub take_place-other-requires : goal.take_place-other-requires
take_place-other-requires c =
    let f : SeatState = c.index_mut-seat.result.now in
    let i = c.loop-i.invariant in
    let same =
    joining_at c.args.shared.now c.args.seats.now.items c.loop-i.i c.loop-i.seats.items
    c.loop-i.place.me f i.1 in
    let of : f.of ≡ Some c.args.shared.now =
    ap (λ (s : SeatState). s.of) (c.index_mut-seat.ensures.value ∙ same)
    ∙ c.requires.seats c.loop-i.i f (search rules) in
    (c.args.shared.now, of)

pub join_seat-requires : goal.join_seat-requires
join_seat-requires c =
    let i = c.loop-i.invariant in
    let j = i.1 in
    let place = c.take_place-other.ensures.is in
    let calm = place.calm in
    let f : SeatState = c.index_mut-seat.result.now in
    let same =
    joining_at c.args.shared.now c.args.seats.now.items c.loop-i.i c.loop-i.seats.items
    c.loop-i.place.me f j in
    let of : f.of ≡ Some c.args.shared.now =
    ap (λ (s : SeatState). s.of) (c.index_mut-seat.ensures.value ∙ same)
    ∙ c.requires.seats c.loop-i.i f (search rules) in
    let yard =
    of_yard c.args.shared.now f f.actor f.receipts c.take_place-other.result
    c.take_place-other.ensures.place of in (
      search rules,
      ap (λ (y : Yard). y.id) (yard ∙ sym c.shared.view_is),
      calm.empty,
      search rules,
      joins _ _ _ _ j.seated j.holds calm.waits calm.holds calm.seated,
    )

pub loop-i-preserved : goal.loop-i-preserved
loop-i-preserved c =
    let i = c.loop-i.invariant in
    let f : SeatState = c.index_mut-seat.result.now in
    let same =
    joining_at c.args.shared.now c.args.seats.now.items c.loop-i.i c.loop-i.seats.items
    c.loop-i.place.me f i.1 in
    let of : f.of ≡ Some c.args.shared.now =
    ap (λ (s : SeatState). s.of) (c.index_mut-seat.ensures.value ∙ same)
    ∙ c.requires.seats c.loop-i.i f (search rules) in (
      search rules,
      joining_next c.args.shared.now c.args.seats.now.items c.loop-i.i c.loop-i.seats.items
          c.loop-i.place.me c.join_seat.new.seat.me f c.take_place-other.new.self c.take_place-other.result i.1
          (search rules) c.index_mut-seat.ensures.value of c.take_place-other.ensures.place
          c.take_place-other.ensures.is c.take_place-other.ensures.left c.join_seat.ensures.2,
    )

pub returns-clause-left : goal.returns-clause-left
returns-clause-left c =
    let end =
    joining_end c.args.shared.now c.args.seats.now.items c.loop-i.i c.loop-i.seats.items
    c.loop-i.place.me (c.loop-i.invariant).1 (search rules) in
    end.left

pub returns-clause-gathered : goal.returns-clause-gathered
returns-clause-gathered c =
    let end =
    joining_end c.args.shared.now c.args.seats.now.items c.loop-i.i c.loop-i.seats.items
    c.loop-i.place.me (c.loop-i.invariant).1 (search rules) in
    end.gathered
