use Rattle.std.proofs.Common.{◌≡◌, ◌∙◌, ◌+◌, ◌<◌, Bool, not, List, length, filter, Some, None, refl, sym, ap, arith}
use Rattle.fy_net.specs.declared.message.Message.{Message}
use Rattle.fy_net.specs.declared.slot.Slot.{Slot}
use Rattle.fy_net.specs.Net.{is_ack_from}
use Rattle.fy_net.specs.Pool.{chain_at}
use Rattle.fy_net.specs.Slots.{there_of}
use Rattle.fy_net.proofs.Pooling.{first_of_chain, like_both, leaves_anyway, no_such_acks, no_acks, slot_there, ack_leaves}
use Rattle.fy_net.proofs.Slots.{one_fewer, some_slot}
use Rattle.fy_net.proofs.pool.Pool.void.Goals as goal

pub loop-place-init : goal.loop-place-init
loop-place-init c = (c.requires, record { sent = refl; processes = refl; room = λ n had. had }, refl)

pub index-requires : goal.index-requires
index-requires c =
    let pool = c.loop-place.self in
    omega (arith, c.if-p-self.true, c.loop-place.invariant.0.chained.wide, pool.ends.ok.0, c.loop-place.invariant.1.processes)

pub vacate-requires-clause-pool : goal.vacate-requires-clause-pool
vacate-requires-clause-pool c = c.loop-place.invariant.0

pub vacate-requires-clause-within : goal.vacate-requires-clause-within
vacate-requires-clause-within c =
    let pool = c.loop-place.self in
    let was = c.loop-place.invariant in
    let first = first_of_chain pool (c.args.self.now.processes + c.args.p.0) c.index.result.now (Some c.in-Some.place) was.0 (omega (arith, c.if-p-self.true, was.0.chained.wide, was.1.processes)) c.index.ensures c.in-Some.is in
    omega (arith, first.1, pool.slots.ok.0)

pub vacate-requires-clause-there : goal.vacate-requires-clause-there
vacate-requires-clause-there c =
    let pool = c.loop-place.self in
    let was = c.loop-place.invariant in
    let first = first_of_chain pool (c.args.self.now.processes + c.args.p.0) c.index.result.now (Some c.in-Some.place) was.0 (omega (arith, c.if-p-self.true, was.0.chained.wide, was.1.processes)) c.index.ensures c.in-Some.is in
    first.2.1

pub loop-place-smaller : goal.loop-place-smaller
loop-place-smaller c =
    let pool = c.loop-place.self in
    let was = c.loop-place.invariant in
    let place = c.in-Some.place in
    let first = first_of_chain pool (c.args.self.now.processes + c.args.p.0) c.index.result.now (Some place) was.0 (omega (arith, c.if-p-self.true, was.0.chained.wide, was.1.processes)) c.index.ensures c.in-Some.is in
    let fewer = one_fewer pool.slots.items place some_slot first.1 (slot_there pool.slots.items place some_slot first.1 first.2.1) in
    let less : c.vacate.new.self.there < pool.there = omega (arith, fewer, c.vacate.ensures.pool.counted, was.0.counted, ap (λ (ss : List Slot). length (there_of ss)) (c.vacate.ensures.slot some_slot)) in
    less

pub loop-place-preserved : goal.loop-place-preserved
loop-place-preserved c =
    let pool = c.loop-place.self in
    let was = c.loop-place.invariant in
    let place = c.in-Some.place in
    let stays : Message → Bool = λ m. not (is_ack_from c.args.p.0 m.body) in
    let first = first_of_chain pool (c.args.self.now.processes + c.args.p.0) c.index.result.now (Some place) was.0 (omega (arith, c.if-p-self.true, was.0.chained.wide, was.1.processes)) c.index.ensures c.in-Some.is in
    let chain : chain_at pool.processes pool.slots.items place ≡ pool.processes + c.args.p.0 = first.2.0 ∙ ap (λ n. n + c.args.p.0) (sym was.1.processes) in
    let left : filter stays (there_of c.vacate.new.self.slots.items) ≡ filter stays (there_of pool.slots.items) =
    ap (λ (ss : List Slot). filter stays (there_of ss)) (c.vacate.ensures.slot some_slot) ∙ leaves_anyway stays pool.slots.items place some_slot (ack_leaves pool c.args.p.0 place was.0 first.1 chain) in
    (c.vacate.ensures.pool, like_both c.args.self.now pool c.vacate.new.self was.1 c.vacate.ensures.like, left ∙ was.2)

pub returns-in_default-clause-pool : goal.returns-in_default-clause-pool
returns-in_default-clause-pool c = c.loop-place.invariant.0

pub returns-in_default-clause-there : goal.returns-in_default-clause-there
returns-in_default-clause-there c =
    let pool = c.loop-place.self in
    let was = c.loop-place.invariant in
    let first = first_of_chain pool (c.args.self.now.processes + c.args.p.0) c.index.result.now None was.0 (omega (arith, c.if-p-self.true, was.0.chained.wide, was.1.processes)) c.index.ensures c.in_default.is in
    sym (no_acks pool.processes c.args.p.0 pool.slots.items (λ k lt chain there. first k (omega arith) lt (chain ∙ ap (λ n. n + c.args.p.0) was.1.processes, there))) ∙ was.2

pub returns-in_default-clause-like : goal.returns-in_default-clause-like
returns-in_default-clause-like c = c.loop-place.invariant.1

pub returns-else-p-self-clause-there : goal.returns-else-p-self-clause-there
returns-else-p-self-clause-there c = sym (no_such_acks c.args.self.now.processes c.args.p.0 c.args.self.now.slots.items (omega (arith, c.if-p-self.false)) c.requires.known)
