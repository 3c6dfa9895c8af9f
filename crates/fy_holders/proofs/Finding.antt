-- the first of a list, and heals from a position on
use Rattle.std.proofs.Common.{◌≡◌, ℕ, zero, suc, ◌+◌, ◌-◌, ◌<◌, ◌≤◌, ltb, Bool, true, false, List, [], ◌∷◌, ◌++◌, length, take, drop, find, get_or, Option, Some, None, option_map, option_to_list, if◌then◌else◌, refl, sym, ◌∙◌, ap, subst, arith, append_assoc, lt-ltb, ◌⊎◌, inl, inr}
use Rattle.std.specs.List.{AllByRecursion}
use Rattle.std.specs.List.Sorted.{IsPartitionPoint, IsPartitionedBy}
use Rattle.std.proofs.lemmas.Bool.{both_ways}
use Rattle.std.proofs.lemmas.Bool.Decides.{nat_tests}
use Rattle.std.proofs.lemmas.List.{take-append-drop, take_all, length-drop}
use Rattle.fy_acts.specs.declared.entry.Entry.{Entry}
use Rattle.fy_cluster.specs.Setup.{Setup}
use Rattle.fy_cluster.specs.History.{History, step_of, heals}
use Rattle.fy_cluster.specs.Replies.{LegalAfter}
use Rattle.fy_holders.specs.declared.outages.Heal.{Heal}
use Rattle.fy_holders.specs.Destroyed.{heal_of, heals_in}

pub first_from : {X : Type 0} (p : X → Bool) (xs : List X) (i : ℕ) (d : X) → i < length xs → ((k : ℕ) (d : X) → k < i → p (get_or xs k d) ≡ false) → p (get_or xs i d) ≡ true → find p xs ≡ Some (get_or xs i d)
first_from p [] i d l before here = absurd (omega arith)
first_from p (x ∷ xs) zero d l before here = ap (λ b. if b then Some x else find p xs) here
first_from p (x ∷ xs) (suc i) d l before here = ap (λ b. if b then Some x else find p xs) (before 0 d (omega arith)) ∙ first_from p xs i d (omega arith) (λ k d m. before (suc k) d (omega arith)) here

pub none_from : {X : Type 0} (p : X → Bool) (xs : List X) (i : ℕ) → length xs ≤ i → ((k : ℕ) (d : X) → k < i → p (get_or xs k d) ≡ false) → find p xs ≡ None
none_from p [] i l before = refl
none_from p (x ∷ xs) zero l before = absurd (omega arith)
none_from p (x ∷ xs) (suc i) l before = ap (λ b. if b then Some x else find p xs) (before 0 x (omega arith)) ∙ none_from p xs i (omega arith) (λ k d m. before (suc k) d (omega arith))

same_at : {X : Type 0} (xs : List X) (i : ℕ) (d e : X) → i < length xs → get_or xs i d ≡ get_or xs i e
same_at [] i d e l = absurd (omega arith)
same_at (x ∷ xs) zero d e l = refl
same_at (x ∷ xs) (suc i) d e l = same_at xs i d e (omega arith)

-- one more that doesn't pass
pub none_more : {X : Type 0} (p : X → Bool) (xs : List X) (i : ℕ) (e : X) → i < length xs → ((k : ℕ) (d : X) → k < i → p (get_or xs k d) ≡ false) → p (get_or xs i e) ≡ false → (k : ℕ) (d : X) → k < i + 1 → p (get_or xs k d) ≡ false
none_more p xs i e l before here k d below = elim (cases_lt k i) [
  | inl low ↦ before k d low
  | inr high ↦ let same : i ≡ k = omega arith in subst (λ k. p (get_or xs k d) ≡ false) same (ap p (same_at xs i d e l) ∙ here)
]
  where
    cases_lt : (k n : ℕ) → (k < n) ⊎ (n ≤ k)
    cases_lt k zero = inr (omega arith)
    cases_lt zero (suc n) = inl (omega arith)
    cases_lt (suc k) (suc n) = elim (cases_lt k n) [ inl l ↦ inl (omega arith) | inr l ↦ inr (omega arith) ]

-- ---- a list whose front passes, and the rest does not

pub is_parted : {X : Type 0} (p : X → Bool) (xs ys : List X) → AllByRecursion (λ x. p x ≡ true) xs → AllByRecursion (λ x. p x ≡ false) ys → IsPartitionedBy p (xs ++ ys)
is_parted p [] ys front rest i j d le lt passes = absurd (both_ways _ (fails ys rest j lt) passes)
  where
    fails : (zs : List _) → AllByRecursion (λ x. p x ≡ false) zs → (k : ℕ) → k < length zs → p (get_or zs k d) ≡ false
    fails [] all k l = absurd (omega arith)
    fails (z ∷ zs) all zero l = all.0
    fails (z ∷ zs) all (suc k) l = fails zs all.1 k (omega arith)
is_parted p (x ∷ xs) ys front rest zero j d le lt passes = front.0
is_parted p (x ∷ xs) ys front rest (suc i) zero d le lt passes = absurd (omega arith)
is_parted p (x ∷ xs) ys front rest (suc i) (suc j) d le lt passes = is_parted p xs ys front.1 rest i j d (omega arith) (omega arith) passes

pub drop_front : {X : Type 0} (p : X → Bool) (xs ys : List X) (i : ℕ) → AllByRecursion (λ x. p x ≡ true) xs → AllByRecursion (λ x. p x ≡ false) ys → i ≤ length (xs ++ ys) → IsPartitionPoint (λ x. p x ≡ true) (λ x. p x ≡ false) (xs ++ ys) i → drop i (xs ++ ys) ≡ ys
drop_front p [] ys zero front rest l parted = refl
drop_front p [] [] (suc i) front rest l parted = absurd (omega arith)
drop_front p [] (y ∷ ys) (suc i) front rest l parted = absurd (both_ways (p y) rest.0 (parted.0 0 y (omega arith) (omega arith)))
drop_front p (x ∷ xs) ys zero front rest l parted = absurd (both_ways (p x) (parted.1 0 x (omega arith) (omega arith)) front.0)
drop_front p (x ∷ xs) ys (suc i) front rest l parted = drop_front p xs ys i front.1 rest (omega arith) (λ j d low high. parted.0 (suc j) d (omega arith) (omega arith), λ j d low high. parted.1 (suc j) d (omega arith) (omega arith))

pub cut : {X : Type 0} (p : X → Bool) (whole xs ys : List X) (i : ℕ) → whole ≡ xs ++ ys → AllByRecursion (λ x. p x ≡ true) xs → AllByRecursion (λ x. p x ≡ false) ys → i ≤ length whole → IsPartitionPoint (λ x. p x ≡ true) (λ x. p x ≡ false) whole i → take (length whole - i) (drop i whole) ≡ ys
cut p whole xs ys i e front rest l parted =
    take_all (length whole - i) (drop i whole) (let n = length-drop i whole in omega arith)
    ∙ ap (drop i) e
    ∙ drop_front p xs ys i front rest (subst (λ zs. i ≤ length zs) e l) (subst (λ zs. IsPartitionPoint (λ x. p x ≡ true) (λ x. p x ≡ false) zs i) e parted)

-- ---- the places of entries

-- the entries are numbered from a place on
abbrev pub NumberedFrom : ℕ → List Entry → Type 0
NumberedFrom n [] = Unit {0}
NumberedFrom n (e ∷ later) = (e.at ≡ n) × NumberedFrom (suc n) later

pub numbered : (c : Setup) (h : History) (journal : List Entry) → LegalAfter c h journal → NumberedFrom (length h) journal
numbered c h [] legal = tt
numbered c h (e ∷ later) legal = (legal.0.place, numbered c (step_of c h e ∷ h) later legal.1)

not_below : (a k : ℕ) → k ≤ a → ltb a k ≡ false
not_below a k l = grind (arith, nat_tests)

-- what holds of the heal of an entry and of those behind holds of all
heals_all : (P : Heal → Type 0) (e : Entry) (later : List Entry) → ((p : ℕ) → heals e.act e.reply ≡ Some p → P (record { process = record { 0 = p }; entry = e.at })) → AllByRecursion P (heals_in later) → AllByRecursion P (heals_in (e ∷ later))
heals_all P e later here rest = at (heals e.act e.reply) refl
  where
    at : (o : Option ℕ) → heals e.act e.reply ≡ o → AllByRecursion P (option_to_list (option_map (λ p. let h : Heal = record { process = record { 0 = p }; entry = e.at } in h) o) ++ heals_in later)
    at None is = rest
    at (Some p) is = (here p is, rest)

from_there : (n k : ℕ) (journal : List Entry) → k ≤ n → NumberedFrom n journal → AllByRecursion (λ (h : Heal). ltb h.entry k ≡ false) (heals_in journal)
from_there n k [] l are = tt
from_there n k (e ∷ later) l are = heals_all (λ (h : Heal). ltb h.entry k ≡ false) e later (λ p is. let place = are.0 in not_below e.at k (omega arith)) (from_there (suc n) k later (omega arith) are.1)

pub below_all : (n m k : ℕ) (journal : List Entry) → n + m ≡ k → NumberedFrom n journal → AllByRecursion (λ (h : Heal). ltb h.entry k ≡ true) (heals_in (take m journal))
below_all n zero k journal e are = tt
below_all n (suc m) k [] e are = tt
below_all n (suc m) k (x ∷ later) e are = heals_all (λ (h : Heal). ltb h.entry k ≡ true) x (take m later) (λ p is. let place = are.0 in lt-ltb x.at k (omega arith)) (below_all (suc n) m k later (omega arith) are.1)

pub from_all : (n m k : ℕ) (journal : List Entry) → n + m ≡ k → NumberedFrom n journal → AllByRecursion (λ (h : Heal). ltb h.entry k ≡ false) (heals_in (drop m journal))
from_all n zero k journal e are = from_there n k journal (omega arith) are
from_all n (suc m) k [] e are = tt
from_all n (suc m) k (x ∷ later) e are = from_all (suc n) m k later (omega arith) are.1

heals_append : (xs ys : List Entry) → heals_in (xs ++ ys) ≡ heals_in xs ++ heals_in ys
heals_append [] ys = refl
heals_append (x ∷ xs) ys = ap (λ zs. option_to_list (heal_of x) ++ zs) (heals_append xs ys) ∙ sym (append_assoc (option_to_list (heal_of x)) (heals_in xs) (heals_in ys))

pub heals_split : (journal : List Entry) (m : ℕ) → heals_in journal ≡ heals_in (take m journal) ++ heals_in (drop m journal)
heals_split journal m = ap heals_in (sym (take-append-drop m journal)) ∙ heals_append (take m journal) (drop m journal)
