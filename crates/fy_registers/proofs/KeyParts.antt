-- the operations of a key, and what they are answered
use Rattle.std.proofs.Common.{inl, inr, ◌⊎◌, ◌≡◌, ◌≢◌, ℕ, ◌==◌, Bool, true, false, cond, List, [], ◌∷◌, None, Option, refl, sym, ap, subst, ◌∙◌, eqb-true, eq-eqb}
use Rattle.std.specs.List.{Contains, AllPairs}
use Rattle.fy_registers.specs.declared.operation.Operation.{Operation}
use Rattle.fy_registers.specs.Linear.{IsBefore, held_after, IsAnswered, AreAnswered, IsLinearizable}
use Rattle.fy_registers.specs.declared.keyed.Keyed.{Keyed}
use Rattle.fy_registers.specs.Keys.{of_key, all_held_after, AreAllAnswered, AreLinearizable}
use Rattle.fy_registers.proofs.Lists.{contains_here, contains_there, contains_cases, contains_none, pairs_head, pairs_tail, pairs_cons, pairs_none}

-- an operation with its key
abbrev pub with_key : ℕ → Operation → Keyed
with_key k o = record { key = k; operation = o }

rekeyed : (k : ℕ) (x : Keyed) → (x.key == k) ≡ true → x ≡ with_key k x.operation
rekeyed k x e = let same = eqb-true x.key k e in (λ i. record { key = same i; operation = x.operation })

-- ---- membership
pub from_key : (k : ℕ) (xs : List Keyed) (o : Operation) → Contains (of_key k xs) o → Contains xs (with_key k o)
from_key k [] o among = absurd (contains_none o among)
from_key k (x ∷ xs) o among = go (x.key == k) refl among (λ there. from_key k xs o there)
  where
    go : (b : Bool) → (x.key == k) ≡ b → Contains (cond b (x.operation ∷ of_key k xs) (of_key k xs)) o → (Contains (of_key k xs) o → Contains xs (with_key k o)) → Contains (x ∷ xs) (with_key k o)
    go true e among more = here (contains_cases x.operation o (of_key k xs) among)
      where
        here : (o ≡ x.operation) ⊎ Contains (of_key k xs) o → Contains (x ∷ xs) (with_key k o)
        here (inl is) = subst (λ q. Contains (x ∷ xs) q) (rekeyed k x e ∙ ap (with_key k) (sym is)) (contains_here x xs)
        here (inr there) = contains_there x (with_key k o) xs (more there)
    go false e among more = contains_there x (with_key k o) xs (more among)

keeps : (b : Bool) (o p : Operation) (os : List Operation) → Contains os o → Contains (cond b (p ∷ os) os) o
keeps true o p os among = contains_there p o os among
keeps false o p os among = among

pub into_key : (k : ℕ) (xs : List Keyed) (o : Operation) → Contains xs (with_key k o) → Contains (of_key k xs) o
into_key k [] o among = absurd (contains_none (with_key k o) among)
into_key k (x ∷ xs) o among = go (λ there. into_key k xs o there) (contains_cases x (with_key k o) xs among)
  where
    go : (Contains xs (with_key k o) → Contains (of_key k xs) o) → (with_key k o ≡ x) ⊎ Contains xs (with_key k o) → Contains (of_key k (x ∷ xs)) o
    go more (inl is) =
        subst (λ q. Contains (of_key k (q ∷ xs)) o) is
        (subst (λ b. Contains (cond b (o ∷ of_key k xs) (of_key k xs)) o) (sym (eq-eqb k k refl)) (contains_here o (of_key k xs)))
    go more (inr there) = keeps (x.key == k) o x.operation (of_key k xs) (more there)

-- ---- pairs
pub pairs_of_key : (R : Keyed → Keyed → Type 0) (S : Operation → Operation → Type 0) (k : ℕ) → ((o p : Operation) → R (with_key k o) (with_key k p) → S o p) → (xs : List Keyed) → AllPairs R xs → AllPairs S (of_key k xs)
pairs_of_key R S k weaker [] all = pairs_none S
pairs_of_key R S k weaker (x ∷ xs) all = go (x.key == k) refl (pairs_of_key R S k weaker xs (pairs_tail R x xs all))
  where
    go : (b : Bool) → (x.key == k) ≡ b → AllPairs S (of_key k xs) → AllPairs S (cond b (x.operation ∷ of_key k xs) (of_key k xs))
    go true e more = pairs_cons S x.operation (of_key k xs)
        (λ o among. weaker x.operation o (subst (λ q. R q (with_key k o)) (rekeyed k x e) (pairs_head R x (with_key k o) xs all (from_key k xs o among))))
        more
    go false e more = more

-- ---- what is answered
pub answered_of_key : (k : ℕ) (held : ℕ → Option ℕ) (xs : List Keyed) → AreAllAnswered held xs → AreAnswered (held k) (of_key k xs)
answered_of_key k held [] answered = tt
answered_of_key k held (x ∷ xs) answered = go (x.key == k) refl (answered_of_key k (all_held_after held x) xs answered.1)
  where
    go : (b : Bool) → (x.key == k) ≡ b → AreAnswered (cond b (held_after (held k) x.operation.act) (held k)) (of_key k xs) → AreAnswered (held k) (cond b (x.operation ∷ of_key k xs) (of_key k xs))
    go true e more = (subst (λ q. IsAnswered (held q) x.operation.act) (eqb-true x.key k e) answered.0, more)
    go false e more = more

pub answered_from_keys : (held : ℕ → Option ℕ) (xs : List Keyed) → ((k : ℕ) → AreAnswered (held k) (of_key k xs)) → AreAllAnswered held xs
answered_from_keys held [] each = tt
answered_from_keys held (x ∷ xs) each = (its.0, answered_from_keys (all_held_after held x) xs (λ k. go k (x.key == k) (each k)))
  where
    its : AreAnswered (held x.key) (x.operation ∷ of_key x.key xs)
    its = subst (λ b. AreAnswered (held x.key) (cond b (x.operation ∷ of_key x.key xs) (of_key x.key xs))) (eq-eqb x.key x.key refl) (each x.key)

    go : (k : ℕ) (b : Bool) → AreAnswered (held k) (cond b (x.operation ∷ of_key k xs) (of_key k xs)) → AreAnswered (cond b (held_after (held k) x.operation.act) (held k)) (of_key k xs)
    go k true answered = answered.1
    go k false answered = answered

-- ---- registers that are linearizable together are so each by itself
pub together_each : (h : List Keyed) → AreLinearizable h → (k : ℕ) → IsLinearizable (of_key k h)
together_each h (order, is) k = (
  of_key k order,
  record {
    taken = λ o among. into_key k h o (is.taken (with_key k o) (from_key k order o among));
    complete = λ o among ended. into_key k order o (is.complete (with_key k o) (from_key k h o among) ended);
    once = pairs_of_key (λ one later. one ≢ later) (λ one later. one ≢ later) k (λ o p differ same. differ (ap (with_key k) same)) order is.once;
    in_time = pairs_of_key (λ one later. IsBefore later.operation one.operation → ⊥) (λ one later. IsBefore later one → ⊥) k (λ o p fine. fine) order is.in_time;
    answered = answered_of_key k (λ key. None) order is.answered;
  },
)
