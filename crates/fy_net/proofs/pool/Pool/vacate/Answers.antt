use Rattle.std.proofs.Common.{◌≡◌, ◌≢◌, ℕ, ◌∙◌, ◌-◌, ◌<◌, length, get_or, set, Some, refl, sym, ap, arith}
use Rattle.std.specs.FinSet as sets
use Rattle.std.specs.Prelude.{vec_len}
use Rattle.std.specs.Vec.{with_item}
use Rattle.std.proofs.lemmas.List.{get_or_default, length-set}
use Rattle.fy_net.specs.declared.pool.Ends.{Ends}
use Rattle.fy_net.specs.declared.pool.Pool.{Pool}
use Rattle.fy_net.specs.Net.{process_of}
use Rattle.fy_net.specs.Pool.{chain_at, is_busy, no_ends, AreChained}
use Rattle.fy_net.specs.Slots.{vacated}
use Rattle.fy_net.proofs.Busy.{busy_elsewhere}
use Rattle.fy_net.proofs.Chaining.{chain_there, left_linked, left_behind, left_first, vacated_chains, vacated_others, vacated_gone, head_is, head_other}
use Rattle.fy_net.proofs.Pooling.{chain_known, known_there, slot_there, pool_left}
use Rattle.fy_net.proofs.Slots.{one_fewer}
use Rattle.fy_net.proofs.pool.Pool.vacate.Goals as goal

pub overflow_sub-self : goal.overflow_sub-self
overflow_sub-self c =
    let pool = c.args.self.now in
    let s = c.index.result.now in
    let within : c.args.place < length pool.slots.items = omega (arith, pool.slots.ok.0, c.requires.within) in
    omega (arith, c.requires.pool.counted, one_fewer pool.slots.items c.args.place s within (slot_there pool.slots.items c.args.place s within c.requires.there))

pub next_there-requires-clause-linked : goal.next_there-requires-clause-linked
next_there-requires-clause-linked c =
    let pool = c.args.self.now in
    let ss = pool.slots.items in
    let s = c.index_mut.result.now in
    let is = c.index_mut.ensures.value in
    let n : length ss ≡ vec_len pool.slots = omega (arith, pool.slots.ok.0) in
    let within : c.args.place < length ss = omega (arith, n, c.requires.within) in
    let chained : AreChained (vec_len pool.slots) pool.processes ss pool.links.items pool.ends.items = rw n at c.requires.pool.chained in
    left_linked (vec_len pool.slots) pool.processes ss (set ss c.args.place (vacated s)) pool.links.items pool.ends.items chained c.args.place c.requires.within
    (vacated_chains ss c.args.place s is pool.processes) (vacated_others ss c.args.place s is) (vacated_gone ss c.args.place s is within)

pub update_busy-requires-clause-others : goal.update_busy-requires-clause-others
update_busy-requires-clause-others c =
    let pool = c.args.self.now in
    let s = c.index.result.now in
    let e = c.index_mut-then-eq.result.now in
    let known : process_of s.message.body < pool.processes = known_there pool.processes pool.slots.items c.args.place s c.requires.pool.known (omega (arith, pool.slots.ok.0, c.requires.within)) c.index.ensures in
    λ q other. c.requires.pool.noted q ∙ sym (rw c.chain-chain.ensures (busy_elsewhere pool.processes pool.ends.items s.message.body (record e { first = c.next_there.result }) q known (λ same. other (same ∙ sym c.process.ensures))))

pub update_busy-requires-clause-process : goal.update_busy-requires-clause-process
update_busy-requires-clause-process c =
    let pool = c.args.self.now in
    omega (arith, c.process.ensures, known_there pool.processes pool.slots.items c.args.place c.index.result.now c.requires.pool.known (omega (arith, pool.slots.ok.0, c.requires.within)) c.index.ensures)

pub returns-then-eq-clause-pool : goal.returns-then-eq-clause-pool
returns-then-eq-clause-pool c =
    let pool = c.args.self.now in
    let ss = pool.slots.items in
    let place = c.args.place in
    let s = c.index_mut.result.now in
    let e = c.index_mut-then-eq.result.now in
    let is = c.index_mut.ensures.value in
    let n : length ss ≡ vec_len pool.slots = omega (arith, pool.slots.ok.0) in
    let within : place < length ss = omega (arith, n, c.requires.within) in
    let chained : AreChained (vec_len pool.slots) pool.processes ss pool.links.items pool.ends.items = rw n at c.requires.pool.chained in
    let new = set ss place (vacated s) in
    let same = vacated_chains ss place s is pool.processes in
    let own : c.chain-chain.result ≡ chain_at pool.processes new place =
    c.chain-chain.ensures ∙ chain_there pool.processes ss place c.index.result.now within c.index.ensures ∙ sym (same place) in
    let known : chain_at pool.processes new place < length pool.ends.items = omega (arith, same place, chain_known pool.processes ss place within c.requires.pool.known, chained.wide) in
    let e_is : e ≡ get_or pool.ends.items (chain_at pool.processes new place) e = rw own at c.index_mut-then-eq.ensures.value in
    let f_is : c.index-2.result.now ≡ get_or pool.ends.items (chain_at pool.processes new place) c.index-2.result.now = rw own at c.index-2.ensures in
    let head : e.first ≡ Some place =
    ap (λ (x : Ends). x.first) (e_is ∙ get_or_default pool.ends.items (chain_at pool.processes new place) e c.index-2.result.now known ∙ sym f_is) ∙ head_is c.index-2.result.now.first place (sym c.eq.ensures ∙ c.if-eq.true) in
    let done = left_first (vec_len pool.slots) pool.processes ss new pool.links.items pool.ends.items chained place c.requires.within same (vacated_others ss place s is) (vacated_gone ss place s is within) e c.next_there.result known e_is head c.next_there.ensures in
    let all : vec_len pool.slots ≡ length new = sym n ∙ sym (length-set ss place (vacated s)) in
    let chained' : AreChained (length new) pool.processes new pool.links.items (set pool.ends.items c.chain-chain.result (record e { first = c.next_there.result })) = rw own (rw all at done) in
    let noted : (q : ℕ) → sets.contains c.update_busy.new.self.busy q ≡ is_busy pool.processes (set pool.ends.items c.chain-chain.result (record e { first = c.next_there.result })) q =
    λ q. c.update_busy.ensures.noted q ∙ ap (λ (x : Pool). is_busy x.processes x.ends.items q) c.update_busy.ensures.rest in
    rw c.update_busy.ensures.rest (pool_left pool (record pool { slots = with_item pool.slots place (vacated s); there = pool.there - 1; ends = with_item pool.ends c.chain-chain.result (record e { first = c.next_there.result }); busy = c.update_busy.new.self.busy }) place s c.requires.pool within is c.requires.there refl refl refl refl chained' noted)

pub returns-else-eq-clause-pool : goal.returns-else-eq-clause-pool
returns-else-eq-clause-pool c =
    let pool = c.args.self.now in
    let ss = pool.slots.items in
    let place = c.args.place in
    let s = c.index_mut.result.now in
    let is = c.index_mut.ensures.value in
    let n : length ss ≡ vec_len pool.slots = omega (arith, pool.slots.ok.0) in
    let within : place < length ss = omega (arith, n, c.requires.within) in
    let chained : AreChained (vec_len pool.slots) pool.processes ss pool.links.items pool.ends.items = rw n at c.requires.pool.chained in
    let new = set ss place (vacated s) in
    let same = vacated_chains ss place s is pool.processes in
    let own : c.chain-chain.result ≡ chain_at pool.processes new place =
    c.chain-chain.ensures ∙ chain_there pool.processes ss place c.index.result.now within c.index.ensures ∙ sym (same place) in
    let known : chain_at pool.processes new place < length pool.ends.items = omega (arith, same place, chain_known pool.processes ss place within c.requires.pool.known, chained.wide) in
    let f_is : c.index-2.result.now ≡ get_or pool.ends.items (chain_at pool.processes new place) no_ends = (rw own at c.index-2.ensures) ∙ get_or_default pool.ends.items (chain_at pool.processes new place) c.index-2.result.now no_ends known in
    let other : (get_or pool.ends.items (chain_at pool.processes new place) no_ends).first ≢ Some place =
    λ first. head_other c.index-2.result.now.first place (sym c.eq.ensures ∙ c.if-eq.false) (ap (λ (x : Ends). x.first) f_is ∙ first) in
    let done = left_behind (vec_len pool.slots) pool.processes ss new pool.links.items pool.ends.items chained place c.requires.within same (vacated_others ss place s is) (vacated_gone ss place s is within) other in
    let all : vec_len pool.slots ≡ length new = sym n ∙ sym (length-set ss place (vacated s)) in
    let chained' : AreChained (length new) pool.processes new pool.links.items pool.ends.items = rw all at done in
    pool_left pool (record pool { slots = with_item pool.slots place (vacated s); there = pool.there - 1 }) place s c.requires.pool within is c.requires.there refl refl refl refl chained' c.requires.pool.noted
