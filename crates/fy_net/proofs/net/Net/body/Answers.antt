use Rattle.std.proofs.Common.{◌≡◌, ◌∙◌, ◌<◌, length, Some, sym, ap, arith}
use Rattle.fy_net.specs.declared.message.Body.{Body}
use Rattle.fy_net.specs.Net.{NetState, process_of, body_of}
use Rattle.fy_net.specs.Slots.{there_of}
use Rattle.fy_net.proofs.Flights.{known_by_number}
use Rattle.fy_net.proofs.Slots.{some_slot}
use Rattle.fy_net.proofs.net.Net.body.Goals as goal

pub returns-clause-body : goal.returns-clause-body
returns-clause-body c =
    let says : body_of (there_of c.self.inside.pool.slots.items) c.args.number ≡ Some c.body.result = c.in_ok-place.ensures.found.says some_slot ∙ ap (λ (b : Body). Some b) (sym (c.body.ensures some_slot)) in
    sym says ∙ ap (λ (net : NetState). body_of net.in_flight c.args.number) c.self.view_is

pub returns-clause-process : goal.returns-clause-process
returns-clause-process c =
    let says : body_of (there_of c.self.inside.pool.slots.items) c.args.number ≡ Some c.body.result = c.in_ok-place.ensures.found.says some_slot ∙ ap (λ (b : Body). Some b) (sym (c.body.ensures some_slot)) in
    let known : process_of c.body.result < length c.self.inside.until.items = rw says at (known_by_number (length c.self.inside.until.items) c.args.number (there_of c.self.inside.pool.slots.items) c.self.invariant.sound.known) in
    omega (arith, known, ap (λ (net : NetState). length net.until) c.self.view_is)
