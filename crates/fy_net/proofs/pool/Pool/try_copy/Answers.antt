use Rattle.std.proofs.Common.{refl, ◌∙◌}
use Rattle.fy_net.proofs.Copies.{copied}
use Rattle.fy_net.proofs.pool.Pool.try_copy.Goals as goal

pub returns-clause-pool : goal.returns-clause-pool
returns-clause-pool c =
    copied c.args.self.now _ c.in_ok-copied_with_room.ensures.items c.in_ok-copied_with_room-2.ensures.items (c.in_ok-from_slice.ensures.items ∙ c.deref.ensures.value) refl refl refl refl c.requires
