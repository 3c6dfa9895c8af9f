use Rattle.std.proofs.Common.{rules, ◌≡◌, true, false, sym, subst}
use Rattle.fy_team.specs.Teams.{AreMembers}
use Rattle.fy_swarm.proofs.Playing.{are_members}
use Rattle.fy_swarm.proofs.cast.storage.Goals as goal

pub unreachable-requires : goal.unreachable-requires
unreachable-requires c =
    let bad : false ≡ true =
    c.in_default.ensures.accepted
    (subst AreMembers (sym c.in_ok-everyone.ensures) (are_members c.args.map.now c.len-few.ensures.few)) in
    absurd (search rules)
