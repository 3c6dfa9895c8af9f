use Rattle.std.proofs.Common.{◌<◌, ◌-◌, length, ap, arith}
use Rattle.fy_net.specs.Net.{NetState, process_of}
use Rattle.fy_net.specs.Pool.{HasRoom}
use Rattle.fy_net.proofs.Keeping.{kept_sent}
use Rattle.fy_net.proofs.net.Net.send.Goals as goal

pub invariant_of-self : goal.invariant_of-self
invariant_of-self c =
    let net = c.self.inside in
    let room : 0 < net.room = omega (arith, ap (λ (t : NetState). t.room) c.self.view_is) in
    let known : process_of c.args.body < length net.until.items = omega (arith, ap (λ (t : NetState). length t.until) c.self.view_is) in
    let spare : HasRoom (net.room - 1) c.push-number.new.self = c.push-number.ensures.room (net.room - 1) (omega (arith, c.self.invariant.spare.0), omega (arith, c.self.invariant.spare.1)) in
    kept_sent net c.self.invariant c.push-number.new.self c.push-number.ensures.pool c.args.body room known c.push-number.ensures.sent c.push-number.ensures.processes c.push-number.ensures.there spare
