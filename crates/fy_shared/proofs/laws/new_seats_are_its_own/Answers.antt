use Rattle.std.proofs.Common.{◌≡◌, Some, refl}
use Rattle.std.specs.List.{range_with_len}
use Rattle.std.proofs.lemmas.List.Elements.{All-map}
use Rattle.fy_shared.specs.Yard.{new_seat}
use Rattle.fy_shared.proofs.laws.new_seats_are_its_own.Goals as goal

pub returns : goal.returns
returns c = λ yard from count. All-map (λ seat. seat.of ≡ Some yard) (new_seat yard) (range_with_len from count) (λ k d l. refl)
