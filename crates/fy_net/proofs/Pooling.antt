-- what holds of a pool as messages come and go
use Rattle.std.proofs.Common.{◌≡◌, ℕ, zero, suc, ◌+◌, ◌<◌, ◌≤◌, Bool, true, false, cond, not, List, [], ◌∷◌, ◌++◌, length, get_or, set, filter, refl, sym, ap, ◌∙◌, arith}
use Rattle.std.specs.List.{All}
use Rattle.std.specs.Prelude.{Option, ◌-◌}
use Rattle.std.proofs.lemmas.Bool.{false≢true}
use Rattle.std.proofs.lemmas.Bool.Decides.{nat_tests}
use Rattle.std.proofs.lemmas.List.{length_push, get_or-map, get_or_default}
use Rattle.std.proofs.lemmas.List.Elements.{All-push, All-set, All-filter, filter_passes}
use Rattle.fy_net.specs.declared.message.Body.{Body}
use Rattle.fy_net.specs.declared.message.Body.TheVariants.{Store, Synced}
use Rattle.fy_net.specs.declared.message.Message.{Message}
use Rattle.fy_net.specs.declared.pool.Ends.{Ends}
use Rattle.fy_net.specs.declared.pool.Pool.{Pool}
use Rattle.fy_net.specs.declared.slot.Slot.{Slot}
use Rattle.fy_net.specs.Net.{process_of, is_ack_from}
use Rattle.fy_net.specs.Pool.{chain_of, chain_at, is_there, no_ends, IsFirst, IsThereOnChain, IsChained, BusyIsRight, IsPool, KeepsRoom}
use Rattle.fy_net.specs.Slots.{there_of, vacated}
use Rattle.fy_net.proofs.Slots.{there_first, there_pushed, rises_pushed, past_pushed, rises_kept, there_kept, one_fewer, same_vacated, past_vacated, some_slot}

-- ---- chains of messages

pub chain_below : (processes : ℕ) (body : Body) → process_of body < processes → chain_of processes body < processes + processes
chain_below processes (Store rec to) lt = omega arith
chain_below processes (Synced rec from) lt = omega arith

pub chain_known : (processes : ℕ) (slots : List Slot) (k : ℕ) → k < length slots → All (λ s. process_of s.message.body < processes) slots → chain_at processes slots k < processes + processes
chain_known processes [] k lt known = absurd (omega arith)
chain_known processes (s ∷ slots) k lt known =
    let body = (get_or (s ∷ slots) k s).message.body in
    let is : chain_at processes (s ∷ slots) k ≡ chain_of processes body = get_or-map (λ (x : Slot). chain_of processes x.message.body) (s ∷ slots) k s 0 lt in
    omega (arith, is, chain_below processes body (known k s lt))

-- the process of the message in a slot that was read
pub known_there : (processes : ℕ) (slots : List Slot) (k : ℕ) (s : Slot) → All (λ x. process_of x.message.body < processes) slots → k < length slots → s ≡ get_or slots k s → process_of s.message.body < processes
known_there processes slots k s known lt is =
    let here : process_of (get_or slots k s).message.body < processes = known k s lt in
    omega (arith, ap (λ (x : Slot). process_of x.message.body) is)

-- an acknowledgement's chain tells whose it is
pub ack_of_chain : (processes p : ℕ) (body : Body) → process_of body < processes → chain_of processes body ≡ processes + p → is_ack_from p body ≡ true
ack_of_chain processes p (Store rec to) lt is = absurd (omega arith)
ack_of_chain processes p (Synced rec from) lt is = grind (arith, nat_tests)

pub chain_of_ack : (processes p : ℕ) (body : Body) → is_ack_from p body ≡ true → chain_of processes body ≡ processes + p
chain_of_ack processes p (Store rec to) is = absurd (false≢true is)
chain_of_ack processes p (Synced rec from) is = grind (arith, nat_tests)

pub ack_is_of : (p : ℕ) (body : Body) → is_ack_from p body ≡ true → process_of body ≡ p
ack_is_of p (Store rec to) is = absurd (false≢true is)
ack_is_of p (Synced rec from) is = grind (arith, nat_tests)

-- ---- what comes

pub there_is_shorter : (ss : List Slot) → length (there_of ss) ≤ length ss
there_is_shorter [] = omega arith
there_is_shorter (s ∷ ss) =
    let rest : length (there_of ss) ≤ length ss = there_is_shorter ss in
    rw (there_first s ss) (elim s.there as (λ b. length (cond b (s.message ∷ there_of ss) (there_of ss)) ≤ suc (length ss)) [ true ↦ omega arith | false ↦ omega arith ])

pub pool_pushed : (old new : Pool) (body : Body) → IsPool old → process_of body < old.processes
    → new.slots.items ≡ old.slots.items ++ record { message = record { number = old.sent; body = body }; there = true } ∷ []
    → new.sent ≡ old.sent + 1 → new.there ≡ old.there + 1 → new.processes ≡ old.processes → IsChained (length new.slots.items) new → ((p : ℕ) → BusyIsRight new p) → IsPool new
pool_pushed old new body pool known slots sent there processes chained noted =
    let ss = old.slots.items in
    let m : Message = record { number = old.sent; body = body } in
    let s : Slot = record { message = m; there = true } in
    let came : there_of new.slots.items ≡ there_of ss ++ m ∷ [] = rw slots (there_pushed ss m) in
    record {
      rising = simp slots (rises_pushed old.sent ss body pool.rising pool.past);
      past = simp (slots, sent) (past_pushed old.sent ss body pool.past);
      known = simp (slots, processes) (All-push (λ (x : Slot). process_of x.message.body < old.processes) ss s pool.known known);
      counted = omega (arith, there, pool.counted, ap length came, length_push (there_of ss) m);
      chained = chained;
      noted = noted;
    }

-- ---- what leaves

-- messages that don't stay anyway may leave before
pub leaves_anyway : (stays : Message → Bool) (ss : List Slot) (i : ℕ) (d : Slot) → stays (get_or ss i d).message ≡ false → filter stays (there_of (set ss i (vacated (get_or ss i d)))) ≡ filter stays (there_of ss)
leaves_anyway stays [] i d goes = refl
leaves_anyway stays (s ∷ ss) zero d goes =
    rw (there_first s ss) (elim s.there as (λ b. filter stays (there_of ss) ≡ filter stays (cond b (s.message ∷ there_of ss) (there_of ss))) [
      | true ↦ rw goes refl
      | false ↦ refl
    ])
leaves_anyway stays (s ∷ ss) (suc i) d goes =
    let rest : filter stays (there_of (set ss i (vacated (get_or ss i d)))) ≡ filter stays (there_of ss) = leaves_anyway stays ss i d goes in
    rw (there_first s (set ss i (vacated (get_or ss i d))), there_first s ss) (elim s.there as (λ b. filter stays (cond b (s.message ∷ there_of (set ss i (vacated (get_or ss i d)))) (there_of (set ss i (vacated (get_or ss i d))))) ≡ filter stays (cond b (s.message ∷ there_of ss) (there_of ss))) [
      | true ↦ elim (stays s.message) as (λ b. cond b (s.message ∷ filter stays (there_of (set ss i (vacated (get_or ss i d))))) (filter stays (there_of (set ss i (vacated (get_or ss i d))))) ≡ cond b (s.message ∷ filter stays (there_of ss)) (filter stays (there_of ss))) [
        | true ↦ ap (λ ms. s.message ∷ ms) rest
        | false ↦ rest
      ]
      | false ↦ rest
    ])

pub all_stay : (stays : Message → Bool) (ss : List Slot) → ((k : ℕ) (d : Slot) → k < length ss → (get_or ss k d).there ≡ true → stays (get_or ss k d).message ≡ true) → filter stays (there_of ss) ≡ there_of ss
all_stay stays [] stay = refl
all_stay stays (s ∷ ss) stay =
    let rest : filter stays (there_of ss) ≡ there_of ss = all_stay stays ss (λ k d lt. stay (suc k) d (omega arith)) in
    rw (there_first s ss) (elim s.there as (λ b. s.there ≡ b → filter stays (cond b (s.message ∷ there_of ss) (there_of ss)) ≡ cond b (s.message ∷ there_of ss) (there_of ss)) [
      | true ↦ λ e. rw (stay 0 s (omega arith) e) (ap (λ ms. s.message ∷ ms) rest)
      | false ↦ λ e. rest
    ] refl)

-- no acknowledgement by p is there
pub no_acks : (processes p : ℕ) (ss : List Slot) → ((k : ℕ) → k < length ss → chain_at processes ss k ≡ processes + p → is_there ss k ≡ true → ⊥) → filter (λ m. not (is_ack_from p m.body)) (there_of ss) ≡ there_of ss
no_acks processes p ss none = all_stay (λ m. not (is_ack_from p m.body)) ss (λ k d lt there. no_ack k d lt there (is_ack_from p (get_or ss k d).message.body) refl)
  where
    no_ack : (k : ℕ) (d : Slot) → k < length ss → (get_or ss k d).there ≡ true → (b : Bool) → is_ack_from p (get_or ss k d).message.body ≡ b → not (is_ack_from p (get_or ss k d).message.body) ≡ true
    no_ack k d lt there true is =
        absurd (none k lt (get_or-map (λ (x : Slot). chain_of processes x.message.body) ss k d 0 lt ∙ chain_of_ack processes p (get_or ss k d).message.body is) (get_or-map (λ (x : Slot). x.there) ss k d false lt ∙ there))
    no_ack k d lt there false is = ap not is

-- acknowledgements by no process that is there
pub no_such_acks : (processes p : ℕ) (ss : List Slot) → processes ≤ p → All (λ s. process_of s.message.body < processes) ss → filter (λ m. not (is_ack_from p m.body)) (there_of ss) ≡ there_of ss
no_such_acks processes p ss beyond known = all_stay (λ m. not (is_ack_from p m.body)) ss (λ k d lt there. no_ack k d lt (is_ack_from p (get_or ss k d).message.body) refl)
  where
    no_ack : (k : ℕ) (d : Slot) → k < length ss → (b : Bool) → is_ack_from p (get_or ss k d).message.body ≡ b → not (is_ack_from p (get_or ss k d).message.body) ≡ true
    no_ack k d lt true is = absurd (omega (arith, ack_is_of p (get_or ss k d).message.body is, known k d lt))
    no_ack k d lt false is = ap not is

-- ---- what is kept

-- of slots of which those that are left are cleared away
module _ (old new : List Slot) where
  pub kept_there : (k : ℕ) → new ≡ filter (λ s. s.there) old → k < length new → is_there new k ≡ true
  kept_there k is lt = go (rw is at lt)
    where
      go : k < length (filter (λ s. s.there) old) → is_there new k ≡ true
      go within = rw is (get_or-map (λ (x : Slot). x.there) (filter (λ s. s.there) old) k some_slot false within ∙ filter_passes (λ s. s.there) old k some_slot within)

  pub kept_known : (processes : ℕ) → new ≡ filter (λ s. s.there) old → All (λ s. process_of s.message.body < processes) old → All (λ s. process_of s.message.body < processes) new
  kept_known processes is known = rw is (All-filter (λ (s : Slot). s.there) (λ (s : Slot). process_of s.message.body < processes) old known)

pub pool_kept : (old new : Pool) → IsPool old → new.slots.items ≡ filter (λ s. s.there) old.slots.items → new.there ≡ old.there → new.sent ≡ old.sent → new.processes ≡ old.processes → IsChained (length new.slots.items) new → ((p : ℕ) → BusyIsRight new p) → IsPool new
pool_kept old new pool slots there sent processes chained noted =
    let ss = old.slots.items in
    let same : there_of new.slots.items ≡ there_of ss = ap there_of slots ∙ there_kept ss in
    record {
      rising = simp slots (rises_kept (λ s. s.there) 0 ss pool.rising);
      past = simp (slots, sent) (All-filter (λ (s : Slot). s.there) (λ (s : Slot). s.message.number < old.sent) ss pool.past);
      known = simp (slots, processes) (All-filter (λ (s : Slot). s.there) (λ (s : Slot). process_of s.message.body < old.processes) ss pool.known);
      counted = omega (arith, there, pool.counted, ap length same);
      chained = chained;
      noted = noted;
    }

-- ---- one that leaves

-- whether a message is there, as its slot says
pub slot_there : (ss : List Slot) (place : ℕ) (d : Slot) → place < length ss → is_there ss place ≡ true → (get_or ss place d).there ≡ true
slot_there ss place d within there = sym (get_or-map (λ (x : Slot). x.there) ss place d false within) ∙ there

pub pool_left : (old new : Pool) (place : ℕ) (s : Slot) → IsPool old → place < length old.slots.items → s ≡ get_or old.slots.items place s → is_there old.slots.items place ≡ true
    → new.slots.items ≡ set old.slots.items place (vacated s) → new.there ≡ old.there - 1 → new.sent ≡ old.sent → new.processes ≡ old.processes → IsChained (length new.slots.items) new → ((p : ℕ) → BusyIsRight new p) → IsPool new
pool_left old new place s pool within is there slots count sent processes chained noted =
    let ss = old.slots.items in
    let here : process_of (get_or ss place s).message.body < old.processes = pool.known place s within in
    let fewer : length (there_of ss) ≡ length (there_of (set ss place (vacated s))) + 1 = one_fewer ss place s within (slot_there ss place s within there) ∙ ap (λ x. length (there_of (set ss place (vacated x))) + 1) (sym is) in
    record {
      rising = simp (slots, same_vacated ss place s is) pool.rising;
      past = simp (slots, sent) (past_vacated ss place old.sent s within is pool.past);
      known = simp (slots, processes) (All-set (λ (x : Slot). process_of x.message.body < old.processes) ss place (vacated s) (omega (arith, ap (λ (x : Slot). process_of x.message.body) is)) pool.known);
      counted = omega (arith, count, pool.counted, fewer, ap (λ xs. length (there_of xs)) slots);
      chained = chained;
      noted = noted;
    }

-- ---- acknowledgements

pub like_both : (a b c : Pool) → KeepsRoom a b → KeepsRoom b c → KeepsRoom a c
like_both a b c one other = record {
  sent = other.sent ∙ one.sent;
  processes = other.processes ∙ one.processes;
  room = λ n had. other.room n (one.room n had);
}

-- the first of a chain, by the ends that were read
pub first_of_chain : (pool : Pool) (c : ℕ) (e : Ends) (r : Option ℕ) → IsPool pool → c < length pool.ends.items → e ≡ get_or pool.ends.items c e → e.first ≡ r → IsFirst (IsThereOnChain pool.processes pool.slots.items c) 0 (length pool.slots.items) r
first_of_chain pool c e r is_pool lt is first =
    let own : (get_or pool.ends.items c no_ends).first ≡ r = ap (λ (x : Ends). x.first) (get_or_default pool.ends.items c no_ends e lt ∙ sym is) ∙ first in
    rw own at (is_pool.chained.first c lt)

-- the message at a place is an acknowledgement by p
pub ack_leaves : (pool : Pool) (p place : ℕ) → IsPool pool → place < length pool.slots.items → chain_at pool.processes pool.slots.items place ≡ pool.processes + p → not (is_ack_from p (get_or pool.slots.items place some_slot).message.body) ≡ false
ack_leaves pool p place is_pool within is =
    let body = (get_or pool.slots.items place some_slot).message.body in
    let chain : chain_of pool.processes body ≡ pool.processes + p = sym (get_or-map (λ (x : Slot). chain_of pool.processes x.message.body) pool.slots.items place some_slot 0 within) ∙ is in
    ap not (ack_of_chain pool.processes p body (is_pool.known place some_slot within) chain)
