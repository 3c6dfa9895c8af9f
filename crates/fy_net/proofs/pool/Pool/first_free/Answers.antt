use Rattle.std.proofs.Common.{◌≡◌, ℕ, ◌∙◌, ◌<◌, length, get_or, Some, None, refl, ap, subst, arith}
use Rattle.std.specs.FinSet as sets
use Rattle.std.specs.Prelude.{vec_len}
use Rattle.std.proofs.lemmas.List.{get_or_default}
use Rattle.fy_net.specs.declared.slot.Slot.{Slot}
use Rattle.fy_net.specs.Pool.{IsFirst, IsFreeOf}
use Rattle.fy_net.proofs.Busy.{walked_small, walked_more, walked_all, walked_beyond}
use Rattle.fy_net.proofs.Candidates.{FreeAmong, first_found, none_found}
use Rattle.fy_net.proofs.Slots.{some_slot}
use Rattle.fy_net.proofs.pool.Pool.first_free.Goals as goal

pub free_of-requires-clause-process : goal.free_of-requires-clause-process
free_of-requires-clause-process c =
    (walked_small c.args.self.now c.requires.pool c.args.until.now c.args.now (sets.contains c.args.up.now) _ c.in-Some.p.0 c.loop-p.first c.in-Some.ensures.steps.0 c.loop-p.invariant).1

pub loop-p-preserved : goal.loop-p-preserved
loop-p-preserved c =
    let pool = c.args.self.now in
    let up = sets.contains c.args.up.now in
    let n : vec_len pool.slots ≡ length pool.slots.items = omega (arith, pool.slots.ok.0) in
    let own : IsFirst (IsFreeOf pool c.args.until.now c.args.now up c.in-Some.p.0) 0 (length pool.slots.items) c.free_of.result = subst (λ (high : ℕ). IsFirst (IsFreeOf pool c.args.until.now c.args.now up c.in-Some.p.0) 0 high c.free_of.result) n c.free_of.ensures in
    rw c.lower-first.ensures (walked_more pool c.requires.pool c.args.until.now c.args.now up _ _ c.in-Some.p.0 c.loop-p.first c.free_of.result c.in-Some.ensures.steps.0 c.in-Some.ensures.steps.1 c.loop-p.invariant own)

pub loop-beyond-init : goal.loop-beyond-init
loop-beyond-init c =
    walked_all c.args.self.now c.requires.pool c.args.until.now c.args.now (sets.contains c.args.up.now) _ c.loop-p.first c.in-None.ensures.steps.0 c.loop-p.invariant

pub loop-beyond-preserved : goal.loop-beyond-preserved
loop-beyond-preserved c =
    let pool = c.args.self.now in
    let up = sets.contains c.args.up.now in
    let beyond = c.loop-beyond.beyond in
    let n : vec_len pool.slots ≡ length pool.slots.items = omega (arith, pool.slots.ok.0) in
    let own : IsFirst (IsFreeOf pool c.args.until.now c.args.now up beyond) 0 (length pool.slots.items) c.free_of-in-loop-beyond.result = subst (λ (high : ℕ). IsFirst (IsFreeOf pool c.args.until.now c.args.now up beyond) 0 high c.free_of-in-loop-beyond.result) n c.free_of-in-loop-beyond.ensures in
    rw c.lower-first-in-loop-beyond.ensures (walked_beyond pool c.requires.pool c.args.until.now c.args.now up beyond c.loop-beyond.first c.free_of-in-loop-beyond.result c.loop-beyond-test.true c.loop-beyond.invariant own)

pub returns-in-Some-first : goal.returns-in-Some-first
returns-in-Some-first c =
    let pool = c.args.self.now in
    let ss = pool.slots.items in
    let up = sets.contains c.args.up.now in
    let Asked : ℕ → Type 0 = λ q. q < c.loop-beyond.beyond in
    let first : IsFirst (FreeAmong c.args.until.now c.args.now up ss Asked) 0 (length ss) (Some c.in-Some-first.place) = rw c.in-Some-first.is at c.loop-beyond.invariant in
    let found = first_found pool c.args.until.now c.args.now up c.requires.pool.known Asked (λ x lt. omega (arith, c.loop-beyond-test.false)) c.in-Some-first.place first in
    let is : c.index.result.now ≡ get_or ss c.in-Some-first.place some_slot = c.index.ensures ∙ get_or_default ss c.in-Some-first.place c.index.result.now some_slot first.1 in
    rw found (ap (λ (s : Slot). Some s.message.number) is)

pub returns-in-None-first : goal.returns-in-None-first
returns-in-None-first c =
    let pool = c.args.self.now in
    let ss = pool.slots.items in
    let up = sets.contains c.args.up.now in
    let Asked : ℕ → Type 0 = λ q. q < c.loop-beyond.beyond in
    let first : IsFirst (FreeAmong c.args.until.now c.args.now up ss Asked) 0 (length ss) None = rw c.in-None-first.is at c.loop-beyond.invariant in
    rw (none_found pool c.args.until.now c.args.now up c.requires.pool.known Asked (λ x lt. omega (arith, c.loop-beyond-test.false)) first) refl
