use Rattle.std.proofs.Common.{rules}
use Rattle.fy_shared.proofs.Moves.{splits}
use Rattle.fy_shared.proofs.places.make_next_place.Goals as goal

pub split_seat-requires : goal.split_seat-requires
split_seat-requires c =
    let o = c.requires.opens in (
      search rules,
      search rules,
      splits _ _ o.opens o.live o.waits o.parts o.holds o.seated o.kept o.more,
    )
