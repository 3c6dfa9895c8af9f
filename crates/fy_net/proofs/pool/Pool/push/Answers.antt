use Rattle.std.proofs.Common.{◌≡◌, ◌∙◌, ◌+◌, ◌<◌, length, ap, arith}
use Rattle.std.specs.Prelude.{vec_len}
use Rattle.std.proofs.lemmas.List.{length_push}
use Rattle.std.proofs.lemmas.List.Elements.{All-push}
use Rattle.fy_net.specs.declared.pool.Pool.{Pool}
use Rattle.fy_net.specs.declared.slot.Slot.{Slot}
use Rattle.fy_net.specs.Net.{process_of}
use Rattle.fy_net.specs.Pool.{AreChained, IsChained}
use Rattle.fy_net.proofs.Chaining.{chained_pushed}
use Rattle.fy_net.proofs.Pooling.{pool_pushed, there_is_shorter}
use Rattle.fy_net.proofs.pool.Pool.push.Goals as goal

pub overflow_add-self : goal.overflow_add-self
overflow_add-self c =
    let pool = c.args.self.now in
    omega (arith, c.requires.pool.counted, there_is_shorter pool.slots.items, pool.slots.ok.0, pool.slots.small, c.requires.room.0)

pub attach-requires-clause-chained : goal.attach-requires-clause-chained
attach-requires-clause-chained c =
    let pool = c.args.self.now in
    let n : length pool.slots.items ≡ vec_len pool.links = omega (arith, c.requires.pool.chained.many, pool.links.ok.0) in
    let chained : AreChained (vec_len pool.links) pool.processes pool.slots.items pool.links.items pool.ends.items = rw n at c.requires.pool.chained in
    rw c.push_reserved.ensures.items (chained_pushed (vec_len pool.links) pool.processes pool.slots.items _ pool.links.items pool.ends.items n chained)

pub attach-requires-clause-known : goal.attach-requires-clause-known
attach-requires-clause-known c =
    let pool = c.args.self.now in
    rw c.push_reserved.ensures.items (All-push (λ (s : Slot). process_of s.message.body < pool.processes) pool.slots.items _ c.requires.pool.known c.requires.process)

pub attach-requires-clause-noted : goal.attach-requires-clause-noted
attach-requires-clause-noted c = c.requires.pool.noted

pub returns-clause-pool : goal.returns-clause-pool
returns-clause-pool c =
    let pool = c.args.self.now in
    let new = c.attach.new.self in
    let rest = c.attach.ensures.rest in
    let slots = ap (λ (p : Pool). p.slots.items) rest ∙ c.push_reserved.ensures.items in
    let n : vec_len pool.links + 1 ≡ length new.slots.items = omega (arith, ap length slots, length_push pool.slots.items, c.requires.pool.chained.many, pool.links.ok.0) in
    let chained : IsChained (length new.slots.items) new = rw n at c.attach.ensures.chained in
    pool_pushed pool new c.args.body c.requires.pool c.requires.process slots (ap (λ (p : Pool). p.sent) rest) (ap (λ (p : Pool). p.there) rest) (ap (λ (p : Pool). p.processes) rest) chained c.attach.ensures.noted
