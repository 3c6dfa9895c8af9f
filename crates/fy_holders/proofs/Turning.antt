-- the turns of a process, one after the other
use Rattle.std.proofs.Common.{◌≡◌, ℕ, zero, suc, ◌+◌, ◌-◌, ◌%◌, ◌<◌, ◌≤◌, ◌&&◌, not, leb, true, false, List, [], ◌∷◌, ◌++◌, length, get_or, refl, sym, ◌∙◌, ap, subst, arith, nat_le, nat_eq}
use Rattle.std.specs.List.{AllByRecursion}
use Rattle.std.specs.List.Sorted.{IsNonDecreasingBy, IsPartitionPoint}
use Rattle.std.proofs.lemmas.Bool.{not-false}
use Rattle.std.proofs.lemmas.Bool.Decides.{nat_tests}
use Rattle.std.specs.Prelude.{Some, None}
use Rattle.fy_holders.specs.Turns.{is_odd, turned, Rise, AreTurns, IsLast}

-- ---- odd numbers

odd_next : (n : ℕ) → (nat_eq (suc n % 2) 1) ≡ not (nat_eq (n % 2) 1)
odd_next n = at (n % 2) refl
  where
    at : (r : ℕ) → n % 2 ≡ r → nat_eq (suc n % 2) 1 ≡ not (nat_eq (n % 2) 1)
    at zero e = let next : suc n % 2 ≡ 1 = omega arith in ap (λ k. nat_eq k 1) next ∙ sym (ap (λ k. not (nat_eq k 1)) e)
    at (suc zero) e = let next : suc n % 2 ≡ 0 = omega arith in ap (λ k. nat_eq k 1) next ∙ sym (ap (λ k. not (nat_eq k 1)) e)
    at (suc (suc r)) e = absurd (omega arith)

pub odd_is : (n : ℕ) → nat_eq (n % 2) 1 ≡ is_odd n
odd_is zero = refl
odd_is (suc n) = odd_next n ∙ ap not (odd_is n)

-- ---- turns and positions

pub le_test : (a b : ℕ) → a ≤ b → nat_le a b ≡ true
le_test a b l = grind (arith, nat_tests)

pub lt_test : (a b : ℕ) → b < a → nat_le a b ≡ false
lt_test a b l = grind (arith, nat_tests)

-- a later turn doesn't count yet
pub turned_before : (turns : List ℕ) (t k : ℕ) → k < t → turned (turns ++ t ∷ []) k ≡ turned turns k
turned_before [] t k l = ap (λ b. b && true) (lt_test t k l)
turned_before (s ∷ turns) t k l = ap (λ b. nat_le s k && not b) (turned_before turns t k l)

-- once all have come, it is by their number
pub turned_past : (turns : List ℕ) (k : ℕ) → AllByRecursion (λ t. t ≤ k) turns → turned turns k ≡ is_odd (length turns)
turned_past [] k all = refl
turned_past (t ∷ turns) k all = ap (λ b. b && not (turned turns k)) (le_test t k all.0) ∙ ap not (turned_past turns k all.1)

pub within_more : (turns : List ℕ) (j k : ℕ) → j ≤ k → AllByRecursion (λ t. t ≤ j) turns → AllByRecursion (λ t. t ≤ k) turns
within_more [] j k l all = tt
within_more (t ∷ turns) j k l all = let first = all.0 in (omega arith, within_more turns j k l all.1)

pub within_push : (turns : List ℕ) (t k : ℕ) → t ≤ k → AllByRecursion (λ t. t ≤ k) turns → AllByRecursion (λ t. t ≤ k) (turns ++ t ∷ [])
within_push [] t k l all = (l, tt)
within_push (s ∷ turns) t k l all = (all.0, within_push turns t k l all.1)

pub rise_push : (above end t : ℕ) (turns : List ℕ) → above < t → end < t → AllByRecursion (λ s. s ≤ end) turns → Rise above turns → Rise above (turns ++ t ∷ [])
rise_push above end t [] l m all rise = (l, tt)
rise_push above end t (s ∷ turns) l m all rise = let first = all.0 in (rise.0, rise_push s end t turns (omega arith) m all.1 rise.1)

-- ---- a search among turns

above_all : (above : ℕ) (turns : List ℕ) → Rise above turns → (j d : ℕ) → j < length turns → above < get_or turns j d
above_all above [] rise j d l = absurd (omega arith)
above_all above (t ∷ turns) rise zero d l = rise.0
above_all above (t ∷ turns) rise (suc j) d l = let first = rise.0 in let more = above_all t turns rise.1 j d (omega arith) in omega arith

pub rise_sorted : (above : ℕ) (turns : List ℕ) → Rise above turns → IsNonDecreasingBy (λ t. t) turns
rise_sorted above [] rise i j d le lt = absurd (omega arith)
rise_sorted above (t ∷ turns) rise zero zero d le lt = omega arith
rise_sorted above (t ∷ turns) rise zero (suc j) d le lt = let more = above_all t turns rise.1 j d (omega arith) in omega arith
rise_sorted above (t ∷ turns) rise (suc i) zero d le lt = absurd (omega arith)
rise_sorted above (t ∷ turns) rise (suc i) (suc j) d le lt = rise_sorted t turns rise.1 i j d (omega arith) (omega arith)

pub turned_by_place : (turns : List ℕ) (k i : ℕ) → i ≤ length turns → IsPartitionPoint (λ t. leb t k ≡ true) (λ t. leb t k ≡ false) turns i → turned turns k ≡ is_odd i
turned_by_place [] k zero l parted = refl
turned_by_place [] k (suc i) l parted = absurd (omega arith)
turned_by_place (t ∷ turns) k zero l parted = let first : leb t k ≡ false = parted.1 0 0 (omega arith) (omega arith) in ap (λ b. b && not (turned turns k)) first
turned_by_place (t ∷ turns) k (suc i) l parted =
    let first : leb t k ≡ true = parted.0 0 0 (omega arith) (omega arith) in
    let rest : turned turns k ≡ is_odd i = turned_by_place turns k i (omega arith) (λ j d low high. parted.0 (suc j) d (omega arith) (omega arith), λ j d low high. parted.1 (suc j) d (omega arith) (omega arith)) in
    ap (λ b. b && not (turned turns k)) first ∙ ap not rest

-- ---- the last position

-- the turns before the last one
pub front : List ℕ → List ℕ
front [] = []
front (t ∷ []) = []
front (t ∷ (s ∷ turns)) = t ∷ front (s ∷ turns)

pub split_last : (turns : List ℕ) (i d : ℕ) → i + 1 ≡ length turns → turns ≡ front turns ++ get_or turns i d ∷ []
unfolding front
split_last [] i d l = absurd (omega arith)
split_last (t ∷ []) zero d l = refl
split_last (t ∷ []) (suc i) d l = absurd (omega arith)
split_last (t ∷ (s ∷ turns)) zero d l = absurd (omega arith)
split_last (t ∷ (s ∷ turns)) (suc i) d l = ap (λ ts. t ∷ ts) (split_last (s ∷ turns) i d (omega arith))

-- those before a last turn are below it
front_within : (above t : ℕ) (turns : List ℕ) → Rise above (turns ++ t ∷ []) → AllByRecursion (λ s. s ≤ t - 1) turns × (above < t)
front_within above t [] rise = (tt, rise.0)
front_within above t (s ∷ turns) rise =
    let rest = front_within s t turns rise.1 in
    let below = rest.1 in
    let first = rise.0 in
    ((omega arith, rest.0), omega arith)

pub odd_push : (turns : List ℕ) (t : ℕ) → is_odd (length (turns ++ t ∷ [])) ≡ not (is_odd (length turns))
odd_push [] t = refl
odd_push (s ∷ turns) t = ap not (odd_push turns t)

pub last_odd : (end : ℕ) (turns : List ℕ) → AreTurns end turns → is_odd (length turns) ≡ true → IsLast end turns (Some end)
last_odd end turns are odd = IsLast.at end (omega arith) (turned_past turns end are.within ∙ odd) (λ k l m. absurd (omega arith))

pub last_none : (end : ℕ) (turns : List ℕ) → length turns ≡ 0 → IsLast end turns None
last_none end [] e = IsLast.never (λ k. refl)
last_none end (t ∷ turns) e = absurd (omega arith)

within_last : (turns : List ℕ) (t end : ℕ) → AllByRecursion (λ s. s ≤ end) (turns ++ t ∷ []) → t ≤ end
within_last [] t end all = all.0
within_last (s ∷ turns) t end all = within_last turns t end all.1

pub last_even : (end t : ℕ) (turns : List ℕ) → AreTurns end (turns ++ t ∷ []) → is_odd (length (turns ++ t ∷ [])) ≡ false → (1 ≤ t) × IsLast end (turns ++ t ∷ []) (Some (t - 1))
last_even end t turns are even = (positive, let l = within in IsLast.at (t - 1) (omega arith) at_last past)
  where
    fronts : AllByRecursion (λ s. s ≤ t - 1) turns × (0 < t)
    fronts = front_within 0 t turns are.rise

    positive : 1 ≤ t
    positive = let some = fronts.1 in omega arith

    within : t ≤ end
    within = within_last turns t end are.within

    odd : is_odd (length turns) ≡ true
    odd = not-false (is_odd (length turns)) (sym (odd_push turns t) ∙ even)

    at_last : turned (turns ++ t ∷ []) (t - 1) ≡ true
    at_last = let some = positive in turned_before turns t (t - 1) (omega arith) ∙ turned_past turns (t - 1) fronts.0 ∙ odd

    past : (k : ℕ) → t - 1 < k → k ≤ end → turned (turns ++ t ∷ []) k ≡ false
    past k l m = turned_past (turns ++ t ∷ []) k (within_push turns t k (omega arith) (within_more turns (t - 1) k (omega arith) fronts.0)) ∙ even

pub last_even_at : (end i d : ℕ) (turns : List ℕ) → AreTurns end turns → is_odd (length turns) ≡ false → i + 1 ≡ length turns → (1 ≤ get_or turns i d) × IsLast end turns (Some (get_or turns i d - 1))
last_even_at end i d turns are even l =
    let split : turns ≡ front turns ++ get_or turns i d ∷ [] = split_last turns i d l in
    let back = last_even end (get_or turns i d) (front turns) (subst (AreTurns end) split are) (subst (λ ts. is_odd (length ts) ≡ false) split even) in
    (back.0, subst (λ ts. IsLast end ts (Some (get_or turns i d - 1))) (sym split) back.1)
