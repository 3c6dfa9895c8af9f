use Rattle.std.proofs.Common.{◌+◌, ◌^◌, ◌<◌, ◌≤◌, max, length, ap, arith}
use Rattle.fy_net.specs.declared.limits.TheConstants.{MOST_IN_FLIGHT}
use Rattle.fy_net.specs.Net.{NetState}
use Rattle.fy_net.specs.Pool.{HasRoom}
use Rattle.fy_net.specs.Slots.{there_of}
use Rattle.fy_net.proofs.Keeping.{kept_reserved}
use Rattle.fy_net.proofs.net.Net.reserve.Goals as goal

pub invariant_of-self : goal.invariant_of-self
invariant_of-self c =
    let net = c.self.inside in
    kept_reserved net c.self.invariant c.reserve.new.self c.reserve.ensures.pool net.room c.reserve.ensures.like c.reserve.ensures.same c.self.invariant.sound.few c.self.invariant.sound.countable (c.reserve.ensures.like.room net.room c.self.invariant.spare)

pub invariant_of-self-2 : goal.invariant_of-self-2
invariant_of-self-2 c =
    let net = c.self.inside in
    let there : length (there_of net.pool.slots.items) + max net.room c.args.count ≤ MOST_IN_FLIGHT = omega (arith, c.self.invariant.sound.few, c.if-count-len.false, c.len.ensures) in
    let sent : net.pool.sent < 2 ^ 63 = omega (arith, c.requires, ap (λ (t : NetState). t.sent) c.self.view_is) in
    let countable : net.pool.sent + max net.room c.args.count < 2 ^ 64 = omega (arith, c.self.invariant.sound.countable, there) in
    let had = c.reserve.ensures.like.room net.room c.self.invariant.spare in
    let spare : HasRoom (max net.room c.args.count) c.reserve.new.self = (omega (arith, had.0, c.in_ok-reserve.ensures.ok.0), omega (arith, had.1, c.in_ok-reserve.ensures.ok.1)) in
    rw c.max-self-inside.ensures (kept_reserved net c.self.invariant c.reserve.new.self c.reserve.ensures.pool (max net.room c.args.count) c.reserve.ensures.like c.reserve.ensures.same there countable spare)
