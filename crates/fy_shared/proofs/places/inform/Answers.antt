use Rattle.std.proofs.Common.{rules, ap}
use Rattle.fy_shared.specs.Turnstile.{SeatView}
use Rattle.fy_shared.proofs.Moves.{notes, tells, meets}
use Rattle.fy_shared.proofs.places.inform.Goals as goal

pub split_seat-note-requires : goal.split_seat-note-requires
split_seat-note-requires c = (c.requires.table.1, search rules, notes _ _ (search rules))

pub join_seat-requires : goal.join_seat-requires
join_seat-requires c =
    let n = c.split_seat-note.ensures.4 in (
      c.requires.table.0,
      search rules,
      search rules,
      search rules,
      tells _ c.args.place.now.me.0 _ c.split_seat-note.result.me.0
          (ap (λ (m : SeatView). m.0.waits) n) (ap (λ (m : SeatView). m.0.parts) n)
          (ap (λ (m : SeatView). m.0.holds) n),
    )

pub load-requires : goal.load-requires
load-requires c = (
  search rules,
  search rules,
  meets _ _ c.join_seat.new.seat.me (search rules) (search rules),
)
