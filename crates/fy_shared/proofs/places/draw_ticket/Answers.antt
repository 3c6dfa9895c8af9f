use Rattle.std.proofs.Common.{rules}
use Rattle.fy_shared.proofs.Moves.{draws}
use Rattle.fy_shared.proofs.places.draw_ticket.Goals as goal

pub fetch_add-requires : goal.fetch_add-requires
fetch_add-requires c =
    let calm = c.requires.calm in
    (c.requires.table.0, search rules, draws _ _ _ calm.waits (search rules))
