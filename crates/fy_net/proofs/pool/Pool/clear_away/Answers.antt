use Rattle.std.proofs.Common.{◌≡◌, ℕ, ◌∙◌, ◌+◌, ◌<◌, length, filter, replicate, refl, ap, rules, arith}
use Rattle.std.specs.FinSet as sets
use Rattle.std.specs.List.{All}
use Rattle.std.specs.Ordering.{nat_cmp}
use Rattle.std.specs.Prelude.{vec_len}
use Rattle.std.specs.Vec.{vec_capacity}
use Rattle.std.proofs.lemmas.Fn.{filter_same}
use Rattle.std.proofs.lemmas.List.{length-map}
use Rattle.fy_net.specs.declared.pool.Pool.{Pool}
use Rattle.fy_net.specs.declared.slot.Slot.{Slot}
use Rattle.fy_net.specs.Net.{process_of}
use Rattle.fy_net.specs.Pool.{no_ends, is_busy, AreChained, IsChained}
use Rattle.fy_net.specs.Slots.{there_of}
use Rattle.fy_net.proofs.Busy.{noted_none}
use Rattle.fy_net.proofs.Chaining.{chained_none}
use Rattle.fy_net.proofs.Slots.{there_kept}
use Rattle.fy_net.proofs.Pooling.{kept_there, kept_known, pool_kept}
use Rattle.fy_net.proofs.pool.Pool.clear_away.Goals as goal

pub loop-place-init : goal.loop-place-init
loop-place-init c =
    let pool = c.args.self.now in
    let wide : vec_len pool.ends ≡ pool.processes + pool.processes = omega (arith, pool.ends.ok.0, c.requires.chained.wide) in
    let ends : c.fill.new.self.items ≡ replicate (pool.processes + pool.processes) no_ends = rw wide at (c.fill.ensures.items (λ y is. search rules)) in
    let chained : AreChained 0 pool.processes c.retain.new.self.items c.clear.new.self.items c.fill.new.self.items = rw c.clear.ensures.items (chained_none pool.processes c.retain.new.self.items c.fill.new.self.items ends) in
    let noted : (p : ℕ) → sets.contains c.empty-self.result p ≡ is_busy pool.processes c.fill.new.self.items p = λ p. ap (λ (s : sets.FinSet nat_cmp). sets.contains s p) c.empty-self.ensures ∙ noted_none pool.processes (pool.processes + pool.processes) p c.fill.new.self.items ends in
    (chained, refl, refl, refl, refl, refl, noted)

-- how many slots are in their chains
pub attach-requires-clause-chained : goal.attach-requires-clause-chained
attach-requires-clause-chained c =
    let pool = c.loop-place.self in
    let n : c.loop-place._place ≡ vec_len pool.links = omega (arith, c.loop-place.invariant.0.many, pool.links.ok.0) in
    rw n at c.loop-place.invariant.0

pub attach-requires-clause-within : goal.attach-requires-clause-within
attach-requires-clause-within c =
    let pool = c.loop-place.self in
    omega (arith, c.loop-place.invariant.0.many, pool.links.ok.0, c.loop-place-test.true, c.len-place-end.ensures, ap vec_len c.loop-place.invariant.1)

pub attach-requires-clause-there : goal.attach-requires-clause-there
attach-requires-clause-there c =
    let pool = c.loop-place.self in
    let left : c.retain.new.self.items ≡ filter (λ (s : Slot). s.there) c.args.self.now.slots.items = filter_same _ (λ (s : Slot). s.there) _ (λ s b f' called. search rules) _ _ c.retain.ensures.filtered in
    let slots : pool.slots.items ≡ filter (λ (s : Slot). s.there) c.args.self.now.slots.items = ap (λ v. v.items) c.loop-place.invariant.1 ∙ left in
    kept_there c.args.self.now.slots.items pool.slots.items (vec_len pool.links) slots (omega (arith, attach-requires-clause-within c, pool.slots.ok.0))

pub attach-requires-clause-known : goal.attach-requires-clause-known
attach-requires-clause-known c =
    let pool = c.loop-place.self in
    let left : c.retain.new.self.items ≡ filter (λ (s : Slot). s.there) c.args.self.now.slots.items = filter_same _ (λ (s : Slot). s.there) _ (λ s b f' called. search rules) _ _ c.retain.ensures.filtered in
    let slots : pool.slots.items ≡ filter (λ (s : Slot). s.there) c.args.self.now.slots.items = ap (λ v. v.items) c.loop-place.invariant.1 ∙ left in
    let known : All (λ (s : Slot). process_of s.message.body < pool.processes) c.args.self.now.slots.items = rw c.loop-place.invariant.4 c.requires.known in
    kept_known c.args.self.now.slots.items pool.slots.items pool.processes slots known

pub attach-requires-clause-noted : goal.attach-requires-clause-noted
attach-requires-clause-noted c = c.loop-place.invariant.6

pub attach-requires-clause-room : goal.attach-requires-clause-room
attach-requires-clause-room c =
    let pool = c.args.self.now in
    let here = attach-requires-clause-within c in
    omega (arith, here, ap vec_len c.loop-place.invariant.1, c.retain.ensures.bound, pool.slots.ok.0, pool.links.ok.0, pool.links.ok.1, c.requires.chained.many, c.loop-place.invariant.5, c.clear.ensures.capacity)

pub loop-place-preserved : goal.loop-place-preserved
loop-place-preserved c =
    let rest = c.attach.ensures.rest in
    let was = c.loop-place.invariant in
    let links : vec_len c.loop-place.self.links ≡ c.loop-place._place = omega (arith, was.0.many, c.loop-place.self.links.ok.0) in
    let chained : IsChained (c.loop-place._place + 1) c.attach.new.self = rw links at c.attach.ensures.chained in
    (chained, ap (λ (p : Pool). p.slots) rest ∙ was.1, ap (λ (p : Pool). p.there) rest ∙ was.2, ap (λ (p : Pool). p.sent) rest ∙ was.3, ap (λ (p : Pool). p.processes) rest ∙ was.4, c.attach.ensures.capacity ∙ was.5, c.attach.ensures.noted)

pub returns-clause-same : goal.returns-clause-same
returns-clause-same c =
    let left : c.retain.new.self.items ≡ filter (λ (s : Slot). s.there) c.args.self.now.slots.items = filter_same _ (λ (s : Slot). s.there) _ (λ s b f' called. search rules) _ _ c.retain.ensures.filtered in
    ap (λ v. there_of v.items) c.loop-place.invariant.1 ∙ ap there_of left ∙ there_kept c.args.self.now.slots.items

pub returns-clause-few : goal.returns-clause-few
returns-clause-few c =
    let pool = c.loop-place.self in
    let old = c.args.self.now.slots.items in
    let left : c.retain.new.self.items ≡ filter (λ (s : Slot). s.there) old = filter_same _ (λ (s : Slot). s.there) _ (λ s b f' called. search rules) _ _ c.retain.ensures.filtered in
    let slots : length pool.slots.items ≡ length (filter (λ (s : Slot). s.there) old) = ap (λ v. length v.items) c.loop-place.invariant.1 ∙ ap length left in
    let counted : length (there_of old) ≡ length (filter (λ (s : Slot). s.there) old) = length-map (filter (λ (s : Slot). s.there) old) (λ s. s.message) in
    let same : length (there_of pool.slots.items) ≡ length (there_of old) = ap length (returns-clause-same c) in
    omega (arith, pool.slots.ok.0, slots, counted, same)

pub returns-clause-pool : goal.returns-clause-pool
returns-clause-pool c =
    let pool = c.loop-place.self in
    let was = c.loop-place.invariant in
    let left : c.retain.new.self.items ≡ filter (λ (s : Slot). s.there) c.args.self.now.slots.items = filter_same _ (λ (s : Slot). s.there) _ (λ s b f' called. search rules) _ _ c.retain.ensures.filtered in
    let all : c.loop-place._place ≡ length pool.slots.items = omega (arith, c.loop-place-test.false, c.loop-place.auto._place-end, c.len-place-end.ensures, ap vec_len was.1, pool.slots.ok.0) in
    let chained : IsChained (length pool.slots.items) pool = rw all at was.0 in
    pool_kept c.args.self.now pool c.requires (ap (λ v. v.items) was.1 ∙ left) was.2 was.3 was.4 chained was.6

pub returns-clause-like : goal.returns-clause-like
returns-clause-like c =
    let pool = c.loop-place.self in
    let old = c.args.self.now in
    let was = c.loop-place.invariant in
    record {
      sent = was.3;
      processes = was.4;
      room = λ n had. (
        omega (arith, had.0, ap vec_len was.1, ap vec_capacity was.1, c.retain.ensures.bound, c.retain.ensures.capacity),
        omega (arith, had.1, was.0.many, pool.links.ok.0, c.loop-place.auto._place-end, c.len-place-end.ensures, c.retain.ensures.bound, c.requires.chained.many, old.links.ok.0, old.slots.ok.0, was.5, c.clear.ensures.capacity),
      );
    }
