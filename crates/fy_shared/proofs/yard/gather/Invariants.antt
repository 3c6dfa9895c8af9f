use Rattle.std.proofs.Common.{◌≡◌}
use Rattle.fy_shared.proofs.Closing.{Joining}
use Rattle.fy_shared.proofs.yard.gather.Given as goal

abbrev pub invariant-loop-i : goal.invariant-loop-i
invariant-loop-i l =
    (l.place.table_id ≡ l.fn.shared.id)
    × Joining l.fn.shared l.fn.seats.items l.i l.seats.items l.place.me
