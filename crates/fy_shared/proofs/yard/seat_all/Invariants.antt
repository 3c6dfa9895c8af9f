use Rattle.std.proofs.Common.{◌≡◌, [], ◌+◌, ◌-◌, ◌≤◌, ◌<◌}
use Rattle.std.specs.Vec.{vec_len, vec_capacity}
use Rattle.fy_shared.specs.Yard.{new_seats}
use Rattle.fy_shared.specs.Turnstile.{first_view}
use Rattle.fy_shared.proofs.yard.seat_all.Given as goal

abbrev pub invariant-loop-actor : goal.invariant-loop-actor
invariant-loop-actor l =
    (l.place.table_id ≡ l.fn.shared.id)
    × (l.place.me
    ≡ (
      record (first_view l.fn.shared.setup) {
        parts = l.actors + 1 - l.actor;
        made = l.actor;
      },
      [],
    ))
    × (0 < l.actor) × (l.actor ≤ l.actors) × (vec_len l.seats + 1 ≡ l.actor)
    × (l.actors ≤ vec_capacity l.seats) × (l.seats.items ≡ new_seats l.fn.shared 1 (l.actor - 1))
