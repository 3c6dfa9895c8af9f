use Rattle.std.proofs.Common.{◌≡◌, All, Some, sym, subst}
use Rattle.fy_examples.proofs.shared.opened.Goals as goal

pub returns-in-Ok : goal.returns-in-Ok
returns-in-Ok c =
    subst (All (λ seat. seat.of ≡ Some c.in-Ok.open.0)) (sym c.in-Ok.ensures.seats)
    (c.new_seats_are_its_own.ensures c.in-Ok.open.0 0 _)
