-- which processes are in the set of the busy, and the walk through it
use Rattle.std.proofs.Common.{◌≡◌, ◌≢◌, ℕ, zero, suc, ◌+◌, ◌<◌, ◌≤◌, Bool, true, false, not, ◌&&◌, ◌||◌, eqb, List, length, get_or, set, replicate, Some, None, inl, inr, refl, sym, ap, ◌∙◌, arith}
use Rattle.std.specs.Prelude.{Option, ◌⊎◌, nat_lt, is_some}
use Rattle.std.specs.Cmp.{nat_cmp_total, unsigned_tied}
use Rattle.std.specs.FinSet as sets
use Rattle.std.specs.Ordering.{nat_cmp}
use Rattle.std.proofs.lemmas.Bool.{cases_eq, cases_lt, false≢true, true≢false}
use Rattle.std.proofs.lemmas.Bool.Decides.{nat_tests}
use Rattle.std.proofs.lemmas.List.{get_or-set_other, get_or_default}
use Rattle.fy_locality.specs.Members.{IsLeast}
use Rattle.fy_locality.specs.declared.TheConstants.{MOST_PROCESSES}
use Rattle.fy_net.specs.declared.message.Body.{Body}
use Rattle.fy_net.specs.declared.message.Body.TheVariants.{Store, Synced}
use Rattle.fy_net.specs.declared.pool.Ends.{Ends}
use Rattle.fy_net.specs.declared.pool.Pool.{Pool}
use Rattle.fy_net.specs.Net.{process_of}
use Rattle.fy_net.specs.Pool.{chain_of, no_ends, has_first, is_busy, lower_of, IsFirst, IsThereOnChain, IsFreeOf, IsPool}
use Rattle.fy_net.proofs.Candidates.{FreeAmong, same_among, one_more}
use Rattle.fy_net.proofs.Flights.{eqb_same, eqb_other}

abbrev pub Set : Type 0
Set = sets.FinSet nat_cmp

-- ---- one process is put in or taken out

left : (s : Set) (p q : ℕ) → sets.contains (sets.remove s p) q ≡ (not (eqb q p) && sets.contains s q)
left s p q = sets.contains-remove nat_cmp_total s p q ∙ ap (λ b. not b && sets.contains s q) (unsigned_tied q p)

put : (s : Set) (p q : ℕ) → sets.contains (sets.insert s p) q ≡ (eqb q p || sets.contains s q)
put s p q = sets.contains-insert nat_cmp_total s p q ∙ ap (λ b. b || sets.contains s q) (unsigned_tied q p)

module _ (busy : Set) (p : ℕ) (is : ℕ → Bool) (others : (q : ℕ) → q ≢ p → sets.contains busy q ≡ is q) where
  pub noted_put : is p ≡ true → (q : ℕ) → sets.contains (sets.insert busy p) q ≡ is q
  noted_put here q = put busy p q ∙ go (cases_eq q p)
    where
      go : (q ≡ p) ⊎ (q ≢ p) → (eqb q p || sets.contains busy q) ≡ is q
      go (inl same) = rw (eqb_same q p same) (sym (ap is same ∙ here))
      go (inr other) = rw (eqb_other q p other) (others q other)

  pub noted_left : is p ≡ false → (q : ℕ) → sets.contains (sets.remove busy p) q ≡ is q
  noted_left here q = left busy p q ∙ go (cases_eq q p)
    where
      go : (q ≡ p) ⊎ (q ≢ p) → (not (eqb q p) && sets.contains busy q) ≡ is q
      go (inl same) = rw (eqb_same q p same) (sym (ap is same ∙ here))
      go (inr other) = rw (eqb_other q p other) (others q other)

-- ---- which are busy

lower_some : (one other : Option ℕ) → is_some (lower_of one other) ≡ (is_some one || is_some other)
lower_some None other = refl
lower_some (Some one) None = refl
lower_some (Some one) (Some other) = refl

below_is : (p n : ℕ) → p < n → nat_lt p n ≡ true
below_is p n lt = grind (arith, nat_tests)

above_is : (p n : ℕ) → n ≤ p → nat_lt p n ≡ false
above_is p n le = grind (arith, nat_tests)

all_false : (a b : Bool) → (a && b && false) ≡ false
all_false true true = refl
all_false true false = refl
all_false false b = refl

mid_false : (a c : Bool) → (a && false && c) ≡ false
mid_false true c = refl
mid_false false c = refl

pub busy_beyond : (processes : ℕ) (ends : List Ends) (p : ℕ) → MOST_PROCESSES ≤ p → is_busy processes ends p ≡ false
busy_beyond processes ends p above = rw (above_is p MOST_PROCESSES above) refl

busy_there : (processes : ℕ) (ends : List Ends) (p : ℕ) → p < MOST_PROCESSES → p < processes → is_busy processes ends p ≡ (has_first ends p || has_first ends (processes + p))
busy_there processes ends p small lt = rw (below_is p MOST_PROCESSES small, below_is p processes lt) refl

-- by the ends that were read
pub busy_read : (processes : ℕ) (ends : List Ends) (p : ℕ) (store ack : Ends) (r : Option ℕ) → p < MOST_PROCESSES → p < processes → length ends ≡ processes + processes
    → store ≡ get_or ends p store → ack ≡ get_or ends (processes + p) ack → r ≡ lower_of store.first ack.first → is_busy processes ends p ≡ is_some r
busy_read processes ends p store ack r small lt wide store_is ack_is is =
    let one : get_or ends p no_ends ≡ store = get_or_default ends p no_ends store (omega arith) ∙ sym store_is in
    let other : get_or ends (processes + p) no_ends ≡ ack = get_or_default ends (processes + p) no_ends ack (omega arith) ∙ sym ack_is in
    busy_there processes ends p small lt
    ∙ ap (λ (e : Ends). is_some e.first || has_first ends (processes + p)) one
    ∙ ap (λ (e : Ends). is_some store.first || is_some e.first) other
    ∙ sym (ap is_some is ∙ lower_some store.first ack.first)

-- a process that is busy is there, and a set can have it
pub busy_small : (processes : ℕ) (ends : List Ends) (p : ℕ) → is_busy processes ends p ≡ true → (p < MOST_PROCESSES) × (p < processes)
busy_small processes ends p busy = (small (cases_lt p MOST_PROCESSES), there (cases_lt p processes))
  where
    small : (p < MOST_PROCESSES) ⊎ (MOST_PROCESSES ≤ p) → p < MOST_PROCESSES
    small (inl lt) = lt
    small (inr le) = absurd (false≢true (sym (busy_beyond processes ends p le) ∙ busy))

    no_process : processes ≤ p → is_busy processes ends p ≡ false
    no_process le = rw (above_is p processes le) (mid_false (nat_lt p MOST_PROCESSES) (has_first ends p || has_first ends (processes + p)))

    there : (p < processes) ⊎ (processes ≤ p) → p < processes
    there (inl lt) = lt
    there (inr le) = absurd (false≢true (sym (no_process le) ∙ busy))

-- the ends of a chain change, and no process but its own comes or goes
pub busy_elsewhere : (processes : ℕ) (ends : List Ends) (b : Body) (e : Ends) (q : ℕ) → process_of b < processes → q ≢ process_of b → is_busy processes (set ends (chain_of processes b) e) q ≡ is_busy processes ends q
busy_elsewhere processes ends b e q lt other = go (cases_lt q processes)
  where
    kept : (x : ℕ) → x ≢ chain_of processes b → has_first (set ends (chain_of processes b) e) x ≡ has_first ends x
    kept x apart = ap (λ (y : Ends). is_some y.first) (get_or-set_other ends (chain_of processes b) x e no_ends apart)

    not_store : (body : Body) → process_of body < processes → q ≢ process_of body → q < processes → q ≢ chain_of processes body
    not_store (Store rec to) below apart within = apart
    not_store (Synced rec from) below apart within = λ same. omega arith

    not_word : (body : Body) → process_of body < processes → q ≢ process_of body → q < processes → processes + q ≢ chain_of processes body
    not_word (Store rec to) below apart within = λ same. omega arith
    not_word (Synced rec from) below apart within = λ same. apart (omega arith)

    go : (q < processes) ⊎ (processes ≤ q) → is_busy processes (set ends (chain_of processes b) e) q ≡ is_busy processes ends q
    go (inl within) =
        ap (λ x. nat_lt q MOST_PROCESSES && nat_lt q processes && (x || has_first (set ends (chain_of processes b) e) (processes + q))) (kept q (not_store b lt other within))
        ∙ ap (λ x. nat_lt q MOST_PROCESSES && nat_lt q processes && (has_first ends q || x)) (kept (processes + q) (not_word b lt other within))
    go (inr above) = rw (above_is q processes above) (mid_false (nat_lt q MOST_PROCESSES) _ ∙ sym (mid_false (nat_lt q MOST_PROCESSES) _))

-- no chain has a slot yet
pub noted_none : (processes n q : ℕ) (ends : List Ends) → ends ≡ replicate n no_ends → sets.contains {R = nat_cmp} sets.empty q ≡ is_busy processes ends q
noted_none processes n q ends are = rw are (sets.contains-empty nat_cmp q ∙ sym (nobody q))
  where
    none_at : (m c : ℕ) → get_or (replicate m no_ends) c no_ends ≡ no_ends
    none_at zero c = refl
    none_at (suc m) zero = refl
    none_at (suc m) (suc c) = none_at m c

    nobody : (p : ℕ) → is_busy processes (replicate n no_ends) p ≡ false
    nobody p = rw (none_at n p, none_at n (processes + p)) (all_false (nat_lt p MOST_PROCESSES) (nat_lt p processes))

-- ---- the walk

no_first : (Holds : ℕ → Type 0) (n : ℕ) (r : Option ℕ) → is_some r ≡ false → IsFirst Holds 0 n r → (k : ℕ) → k < n → Holds k → ⊥
no_first Holds n None none first k lt holds = first k (omega arith) lt holds
no_first Holds n (Some i) none first k lt holds = true≢false none

neither : (a b : Bool) → (a || b) ≡ false → (a ≡ false) × (b ≡ false)
neither true b is = absurd (true≢false is)
neither false b is = (refl, is)

module _ (pool : Pool) (is_pool : IsPool pool) where
  -- of a process that isn't busy no message is there
  none_where : (p k : ℕ) → p < MOST_PROCESSES → sets.contains pool.busy p ≡ false → p < pool.processes → k < length pool.slots.items
      → IsThereOnChain pool.processes pool.slots.items p k ⊎ IsThereOnChain pool.processes pool.slots.items (pool.processes + p) k → ⊥
  none_where p k small absent lt within there = go there
    where
      none : (has_first pool.ends.items p ≡ false) × (has_first pool.ends.items (pool.processes + p) ≡ false)
      none = neither (has_first pool.ends.items p) (has_first pool.ends.items (pool.processes + p)) (sym (busy_there pool.processes pool.ends.items p small lt) ∙ sym (is_pool.noted p) ∙ absent)

      go : IsThereOnChain pool.processes pool.slots.items p k ⊎ IsThereOnChain pool.processes pool.slots.items (pool.processes + p) k → ⊥
      go (inl store) = no_first (IsThereOnChain pool.processes pool.slots.items p) (length pool.slots.items) _ none.0 (is_pool.chained.first p (omega (arith, is_pool.chained.wide))) k within store
      go (inr ack) = no_first (IsThereOnChain pool.processes pool.slots.items (pool.processes + p)) (length pool.slots.items) _ none.1 (is_pool.chained.first (pool.processes + p) (omega (arith, is_pool.chained.wide))) k within ack

-- a process that a set can have isn't in it any more
abbrev pub NotIn : Set → ℕ → Type 0
NotIn rest q = (q < MOST_PROCESSES) × (sets.contains rest q ≡ false)

-- the rest is of the busy, and the first of all others below MOST_PROCESSES is found
pub record Walked (pool : Pool) (until : List ℕ) (now : ℕ) (up : ℕ → Bool) (rest : Set) (first : Option ℕ) : Type 0 where
  pub within : (q : ℕ) → sets.contains rest q ≡ true → sets.contains pool.busy q ≡ true
  pub found : IsFirst (FreeAmong until now up pool.slots.items (NotIn rest)) 0 (length pool.slots.items) first

module _ (pool : Pool) (is_pool : IsPool pool) (until : List ℕ) (now : ℕ) (up : ℕ → Bool) where
  pub walked_small : (rest : Set) (p : ℕ) (r : Option ℕ) → IsLeast rest p → Walked pool until now up rest r → (p < MOST_PROCESSES) × (p < pool.processes)
  walked_small rest p r least walked = busy_small pool.processes pool.ends.items p (sym (is_pool.noted p) ∙ walked.within p least.present)

  pub walked_more : (rest next : Set) (p : ℕ) (r q : Option ℕ) → IsLeast rest p → next ≡ sets.remove rest p → Walked pool until now up rest r
      → IsFirst (IsFreeOf pool until now up p) 0 (length pool.slots.items) q → Walked pool until now up next (lower_of r q)
  walked_more rest next p r q least without walked own = record {
    within = λ x there. walked.within x (still x (eqb x p) (sym (gone x) ∙ there));
    found = one_more pool until now up is_pool.known (NotIn rest) (NotIn next) p r q small.1
        (small.0, gone p ∙ ap (λ b. not b && sets.contains rest p) (eqb_same p p refl))
        (λ x asked. (asked.0, gone x ∙ nothing (not (eqb x p)) (sets.contains rest x) asked.1))
        (λ x asked other. (asked.0, sym (gone x ∙ ap (λ b. not b && sets.contains rest x) (eqb_other x p other)) ∙ asked.1))
        walked.found own;
  }
    where
      small : (p < MOST_PROCESSES) × (p < pool.processes)
      small = walked_small rest p r least walked

      gone : (x : ℕ) → sets.contains next x ≡ (not (eqb x p) && sets.contains rest x)
      gone x = ap (λ s. sets.contains s x) without ∙ left rest p x

      still : (x : ℕ) (b : Bool) → (not b && sets.contains rest x) ≡ true → sets.contains rest x ≡ true
      still x true there = absurd (false≢true there)
      still x false there = there

      nothing : (a b : Bool) → b ≡ false → (a && b) ≡ false
      nothing true b is = is
      nothing false b is = refl

  pub walked_all : (rest : Set) (r : Option ℕ) → rest ≡ sets.empty → Walked pool until now up rest r → IsFirst (FreeAmong until now up pool.slots.items (λ q. q < MOST_PROCESSES)) 0 (length pool.slots.items) r
  walked_all rest r none walked = same_among pool until now up is_pool.known (NotIn rest) (λ q. q < MOST_PROCESSES) r
      (λ x asked. asked.0)
      (λ x lt. (lt, ap (λ s. sets.contains s x) none ∙ sets.contains-empty nat_cmp x))
      walked.found

  -- one process more beyond those of the set
  pub walked_beyond : (p : ℕ) (r q : Option ℕ) → p < pool.processes → IsFirst (FreeAmong until now up pool.slots.items (λ x. x < p)) 0 (length pool.slots.items) r
      → IsFirst (IsFreeOf pool until now up p) 0 (length pool.slots.items) q → IsFirst (FreeAmong until now up pool.slots.items (λ x. x < p + 1)) 0 (length pool.slots.items) (lower_of r q)
  walked_beyond p r q lt first own = one_more pool until now up is_pool.known (λ x. x < p) (λ x. x < p + 1) p r q lt (omega arith) (λ x asked. omega arith) (λ x asked other. omega arith) first own
