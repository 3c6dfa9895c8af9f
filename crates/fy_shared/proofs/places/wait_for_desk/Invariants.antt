use Rattle.std.proofs.Common.{◌≡◌}
use Rattle.fy_shared.proofs.places.wait_for_desk.Given as goal

abbrev pub invariant-loop : goal.invariant-loop
invariant-loop g l =
    (goal.iterator-loop g).can_next l.iterator' × (goal.iterator-loop g).is_finite l.iterator'
    × (l.place.table_id ≡ l.initial.place.table_id) × (l.place.me ≡ l.initial.place.me)
