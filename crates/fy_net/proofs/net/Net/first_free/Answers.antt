use Rattle.std.proofs.Common.{◌≡◌, rules}
use Rattle.std.specs.FinSet as sets
use Rattle.fy_net.specs.Net.{IsNetState, first_free_of}
use Rattle.fy_net.proofs.Flights.{first_free_is_least}
use Rattle.fy_net.proofs.net.Net.first_free.Goals as goal

pub returns-clause-least : goal.returns-clause-least
returns-clause-least c =
    let first : c.first_free.result ≡ first_free_of c.args.self.now (sets.contains c.args.up.now) = search rules in
    let sound : IsNetState c.args.self.now = rw (← c.self.view_is) c.self.invariant.sound in
    rw first (first_free_is_least c.args.self.now (sets.contains c.args.up.now) sound)
