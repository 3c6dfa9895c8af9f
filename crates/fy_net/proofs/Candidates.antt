-- the first message that may be taken, among those of the processes that were asked
use Rattle.std.proofs.Common.{◌≡◌, ◌≢◌, ℕ, ◌+◌, ◌<◌, Bool, true, false, not, ◌&&◌, List, length, get_or, find, Some, None, inl, inr, refl, sym, ap, ◌∙◌, arith}
use Rattle.std.specs.List.{All}
use Rattle.std.specs.Prelude.{Option, ◌⊎◌, nat_lt, slice_index, min}
use Rattle.std.proofs.lemmas.Bool.{cases_eq, cases_lt, false≢true}
use Rattle.std.proofs.lemmas.List.{get_or-map, get_or_default}
use Rattle.fy_net.specs.declared.message.Body.{Body}
use Rattle.fy_net.specs.declared.message.Body.TheVariants.{Store, Synced}
use Rattle.fy_net.specs.declared.pool.Pool.{Pool}
use Rattle.fy_net.specs.declared.slot.Slot.{Slot}
use Rattle.fy_net.specs.Net.{process_of, receiver_is_up}
use Rattle.fy_net.specs.Places.{may_be_taken}
use Rattle.fy_net.specs.Pool.{chain_of, chain_at, is_there, lower_of, IsFirst, IsReachedOf, IsFreeOf}
use Rattle.fy_net.specs.Slots.{there_of}
use Rattle.fy_net.proofs.Chains.{first_same}
use Rattle.fy_net.proofs.Slots.{some_slot, found_none, found_first}

-- ---- the lower of two

lower_is : (P Q : ℕ → Type 0) (low high : ℕ) (a b : Option ℕ) → IsFirst P low high a → IsFirst Q low high b → IsFirst (λ k. P k ⊎ Q k) low high (lower_of a b)
lower_is P Q low high None None one other = λ k le lt holds. elim holds [ inl p ↦ one k le lt p | inr q ↦ other k le lt q ]
lower_is P Q low high None (Some j) one other = (other.0, other.1, inr other.2, λ k le lt holds. elim holds [ inl p ↦ one k le (omega (arith, other.1)) p | inr q ↦ other.3 k le lt q ])
lower_is P Q low high (Some i) None one other = (one.0, one.1, inl one.2, λ k le lt holds. elim holds [ inl p ↦ one.3 k le lt p | inr q ↦ other k le (omega (arith, one.1)) q ])
lower_is P Q low high (Some i) (Some j) one other =
    elim (cases_lt i j) [
      | inl below ↦ (let is : min i j ≡ i = omega arith in rw is (one.0, one.1, inl one.2, λ k le lt holds. elim holds [ inl p ↦ one.3 k le lt p | inr q ↦ other.3 k le (omega arith) q ]))
      | inr above ↦ (let is : min i j ≡ j = omega arith in rw is (other.0, other.1, inr other.2, λ k le lt holds. elim holds [ inl p ↦ one.3 k le (omega arith) p | inr q ↦ other.3 k le lt q ]))
    ]

-- ---- candidates

-- a message that may be taken is there, of a process that was asked
abbrev pub FreeAmong : List ℕ → ℕ → (ℕ → Bool) → List Slot → (ℕ → Type 0) → ℕ → Type 0
FreeAmong until now up slots Asked k = (is_there slots k ≡ true) × (may_be_taken until now up (get_or slots k some_slot).message ≡ true) × Asked (process_of (get_or slots k some_slot).message.body)

both_parts : (clogged reached : Bool) → (not clogged && reached) ≡ true → (clogged ≡ false) × (reached ≡ true)
both_parts true reached free = absurd (false≢true free)
both_parts false reached free = (refl, free)

both_of_parts : (clogged reached : Bool) → clogged ≡ false → reached ≡ true → (not clogged && reached) ≡ true
both_of_parts clogged reached unclogged up = rw (unclogged, up) refl

module _ (pool : Pool) (until : List ℕ) (now : ℕ) (up : ℕ → Bool) where
  module _ (known : All (λ s. process_of s.message.body < pool.processes) pool.slots.items) where
    abbrev Among : (ℕ → Type 0) → ℕ → Type 0
    Among Asked k = FreeAmong until now up pool.slots.items Asked k

    abbrev body_at : ℕ → Body
    body_at k = (get_or pool.slots.items k some_slot).message.body

    chain_is : (k : ℕ) → k < length pool.slots.items → chain_at pool.processes pool.slots.items k ≡ chain_of pool.processes (body_at k)
    chain_is k lt = get_or-map (λ (x : Slot). chain_of pool.processes x.message.body) pool.slots.items k some_slot 0 lt

    -- others were asked, of which the same holds
    pub same_among : (Asked Asked' : ℕ → Type 0) (r : Option ℕ) → ((x : ℕ) → Asked x → Asked' x) → ((x : ℕ) → Asked' x → Asked x) → IsFirst (Among Asked) 0 (length pool.slots.items) r → IsFirst (Among Asked') 0 (length pool.slots.items) r
    same_among Asked Asked' r there back = first_same (Among Asked) (Among Asked') 0 (length pool.slots.items) r (λ k _ _ holds. (holds.0, holds.1, there _ holds.2)) (λ k _ _ holds. (holds.0, holds.1, back _ holds.2))

    -- one that isn't clogged has those that find it up
    reached_if : (p k : ℕ) (b : Body) → chain_at pool.processes pool.slots.items k ≡ chain_of pool.processes b → is_there pool.slots.items k ≡ true → process_of b ≡ p → receiver_is_up up b ≡ true → IsReachedOf pool p (up p) k
    reached_if p k (Store rec to) chain there is reached = inr ((chain ∙ is, there), ap up (sym is) ∙ reached)
    reached_if p k (Synced rec from) chain there is reached = inl (chain ∙ ap (λ x. pool.processes + x) is, there)

    reached_only : (p k : ℕ) (b : Body) → p < pool.processes → process_of b < pool.processes → chain_at pool.processes pool.slots.items k ≡ chain_of pool.processes b → IsReachedOf pool p (up p) k → (process_of b ≡ p) × (receiver_is_up up b ≡ true)
    reached_only p k (Store rec to) below lt chain (inl ack) = absurd (omega (arith, ack.0))
    reached_only p k (Store rec to) below lt chain (inr store) =
        let is : to.0 ≡ p = sym chain ∙ store.0.0 in
        (is, ap up is ∙ store.1)
    reached_only p k (Synced rec from) below lt chain (inl ack) = (omega (arith, ack.0), refl)
    reached_only p k (Synced rec from) below lt chain (inr store) = absurd (omega (arith, store.0.0))

    -- one more is asked
    pub one_more : (Asked Asked' : ℕ → Type 0) (p : ℕ) (r q : Option ℕ) → p < pool.processes → Asked' p → ((x : ℕ) → Asked x → Asked' x) → ((x : ℕ) → Asked' x → x ≢ p → Asked x)
        → IsFirst (Among Asked) 0 (length pool.slots.items) r → IsFirst (IsFreeOf pool until now up p) 0 (length pool.slots.items) q → IsFirst (Among Asked') 0 (length pool.slots.items) (lower_of r q)
    one_more Asked Asked' p r q below here more fewer first own = first_same (λ k. Among Asked k ⊎ IsFreeOf pool until now up p k) (Among Asked') 0 (length pool.slots.items) (lower_of r q)
        (λ k _ lt holds. to k lt holds)
        (λ k _ lt holds. from k lt holds (cases_eq (process_of (body_at k)) p))
        (lower_is (Among Asked) (IsFreeOf pool until now up p) 0 (length pool.slots.items) r q first own)
      where
        reached_there : (k : ℕ) → IsReachedOf pool p (up p) k → is_there pool.slots.items k ≡ true
        reached_there k (inl ack) = ack.1
        reached_there k (inr store) = store.0.1

        to : (k : ℕ) → k < length pool.slots.items → Among Asked k ⊎ IsFreeOf pool until now up p k → Among Asked' k
        to k lt (inl free) = (free.0, free.1, more (process_of (body_at k)) free.2)
        to k lt (inr free) =
            let b = body_at k in
            let only : (process_of b ≡ p) × (receiver_is_up up b ≡ true) = reached_only p k b below (known k some_slot lt) (chain_is k lt) free.1 in
            let unclogged : nat_lt now (slice_index until (process_of b)) ≡ false = ap (λ x. nat_lt now (slice_index until x)) only.0 ∙ free.0 in
            (reached_there k free.1, both_of_parts (nat_lt now (slice_index until (process_of b))) (receiver_is_up up b) unclogged only.1, rw only.0 here)

        from : (k : ℕ) → k < length pool.slots.items → Among Asked' k → (process_of (body_at k) ≡ p) ⊎ (process_of (body_at k) ≢ p) → Among Asked k ⊎ IsFreeOf pool until now up p k
        from k lt free (inl is) =
            let b = body_at k in
            let parts = both_parts (nat_lt now (slice_index until (process_of b))) (receiver_is_up up b) free.1 in
            inr (ap (λ x. nat_lt now (slice_index until x)) (sym is) ∙ parts.0, reached_if p k b (chain_is k lt) free.0 is parts.1)
        from k lt free (inr other) = inl (free.0, free.1, fewer (process_of (body_at k)) free.2 other)

    -- where all were asked it is the first of all
    pub first_found : (Asked : ℕ → Type 0) → ((x : ℕ) → x < pool.processes → Asked x) → (i : ℕ) → IsFirst (Among Asked) 0 (length pool.slots.items) (Some i) → find (may_be_taken until now up) (there_of pool.slots.items) ≡ Some (get_or pool.slots.items i some_slot).message
    first_found Asked all i first = found_first (may_be_taken until now up) pool.slots.items i some_slot first.1
        (sym (get_or-map (λ (x : Slot). x.there) pool.slots.items i some_slot false first.1) ∙ first.2.0) first.2.1
        (λ k lt there. fails k lt there (may_be_taken until now up (get_or pool.slots.items k some_slot).message) refl)
      where
        fails : (k : ℕ) → k < i → (get_or pool.slots.items k some_slot).there ≡ true → (b : Bool) → may_be_taken until now up (get_or pool.slots.items k some_slot).message ≡ b → may_be_taken until now up (get_or pool.slots.items k some_slot).message ≡ false
        fails k lt there true is = absurd (first.3 k (omega arith) lt (get_or-map (λ (x : Slot). x.there) pool.slots.items k some_slot false (omega (arith, first.1)) ∙ there, is, all _ (known k some_slot (omega (arith, first.1)))))
        fails k lt there false is = is

    pub none_found : (Asked : ℕ → Type 0) → ((x : ℕ) → x < pool.processes → Asked x) → IsFirst (Among Asked) 0 (length pool.slots.items) None → find (may_be_taken until now up) (there_of pool.slots.items) ≡ None
    none_found Asked all none = found_none (may_be_taken until now up) pool.slots.items (λ k d lt there. fails k d lt there (may_be_taken until now up (get_or pool.slots.items k d).message) refl)
      where
        fails : (k : ℕ) (d : Slot) → k < length pool.slots.items → (get_or pool.slots.items k d).there ≡ true → (b : Bool) → may_be_taken until now up (get_or pool.slots.items k d).message ≡ b → may_be_taken until now up (get_or pool.slots.items k d).message ≡ false
        fails k d lt there true is = absurd (none k (omega arith) lt (get_or-map (λ (x : Slot). x.there) pool.slots.items k d false lt ∙ there, ap (λ (s : Slot). may_be_taken until now up s.message) (get_or_default pool.slots.items k some_slot d lt) ∙ is, all _ (known k some_slot lt)))
        fails k d lt there false is = is
