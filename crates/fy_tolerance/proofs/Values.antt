-- the values of a key within a set, one after another
use Rattle.std.proofs.Common.{◌≡◌, ◌≢◌, ℕ, ◌+◌, ◌<◌, ◌≤◌, Bool, true, false, cond, leb, eqb, ◌&&◌, not, List, Some, refl, sym, ap, ◌∙◌, arith}
use Rattle.std.specs.Ordering.{nat_cmp, eq_by_cmp}
use Rattle.std.specs.FinSet as sets
use Rattle.std.specs.Cmp.{nat_cmp_total, unsigned_tied}
use Rattle.std.specs.Option.{option_eq}
use Rattle.std.specs.Str.{bytes_eq}
use Rattle.std.proofs.lemmas.Bool.Decides.{nat_tests}
use Rattle.std.proofs.lemmas.Cmp.{nat_list_eq_equiv}
use Rattle.fy_locality.specs.declared.locality.Locality.{Locality}
use Rattle.fy_locality.specs.declared.key.Key.{Key}
use Rattle.fy_locality.specs.Locality.{has_value}
use Rattle.fy_policy.specs.Sat.{group, outside}
use Rattle.fy_policy.specs.Counted.{number_of}
use Rattle.fy_policy.proofs.Tallied.{number-le}
use Rattle.fy_tolerance.proofs.Costing.{number-some, number-split}
use Rattle.fy_tolerance.specs.Taken.{HasTaken}

pub at_least : (n m : ℕ) → leb n m ≡ true → n ≤ m
at_least n m e = grind (arith, nat_tests)

pub too_few : (n m : ℕ) → leb n m ≡ false → m < n
too_few n m e = grind (arith, nat_tests)

-- ---- the measure of a loop that takes processes out of a set
-- how many numbers below n are in a set, not written out where n is a numeral
pub present : (ℕ → Bool) → ℕ → ℕ
present f n = number_of f n

pub few_present : (f : ℕ → Bool) (n : ℕ) → present f n ≤ n
unfolding present
few_present f n = number-le f n

fewer : (f g : ℕ → Bool) → ((q : ℕ) → g q ≡ true → f q ≡ true) → (n p : ℕ) → p < n → f p ≡ true → g p ≡ false → present g n < present f n
unfolding present
fewer f g more n p h e d =
    less _ _ _ (number-split f g (λ q. f q && not (g q)) n (λ q. parted (f q) (g q) (more q)))
    (number-some (λ q. f q && not (g q)) n p h (ap (λ b. b && not (g p)) e ∙ ap not d))
  where
    parted : (a b : Bool) → (b ≡ true → a ≡ true) → cond a 1 0 ≡ cond b 1 0 + cond (a && not b) 1 0
    parted true true h = refl
    parted true false h = refl
    parted false true h = let x : false ≡ true = h refl in absurd (let y : ⊥ = cc in y)
    parted false false h = refl

    less : (a b c : ℕ) → a ≡ b + c → 1 ≤ c → b < a
    less a b c e h = omega arith

-- one dropped
pub fewer-dropped : (rest rest' : sets.FinSet nat_cmp) (p : ℕ) → rest' ≡ sets.remove rest p → sets.contains rest p ≡ true → p < 1024 → present (sets.contains rest') 1024 < present (sets.contains rest) 1024
fewer-dropped rest rest' p is here small = fewer (sets.contains rest) (sets.contains rest') (λ x h. second _ _ (sym (dropped x) ∙ h)) 1024 p small here (dropped p ∙ ap (λ b. not b && sets.contains rest p) (unsigned_tied p p) ∙ itself p _)
  where
    dropped : (x : ℕ) → sets.contains rest' x ≡ (not (eq_by_cmp nat_cmp x p) && sets.contains rest x)
    dropped x = ap (λ s. sets.contains s x) is ∙ sets.contains-remove nat_cmp_total rest p x

    second : (a b : Bool) → (a && b) ≡ true → b ≡ true
    second true b e = e
    second false b e = absurd (let x : ⊥ = cc in x)

    itself : (p : ℕ) (b : Bool) → (not (eqb p p) && b) ≡ false
    itself p b = grind (arith, nat_tests)

-- a value's members, as the loop finds them
module _ (processes : List Locality) (key : Key) (rest peers members rest' : sets.FinSet nat_cmp) (v : List ℕ)
    (has : (x : ℕ) → sets.contains peers x ≡ has_value processes key v x) (found : members ≡ sets.intersection rest peers) (left : rest' ≡ sets.difference rest members) where
  pub contains-members : (x : ℕ) → sets.contains members x ≡ group processes key v (sets.contains rest) x
  contains-members x = ap (λ s. sets.contains s x) found ∙ sets.contains-intersection nat_cmp_total rest peers x ∙ ap (λ b. sets.contains rest x && b) (has x)

  pub contains-others : (x : ℕ) → sets.contains rest' x ≡ outside processes key v (sets.contains rest) x
  contains-others x = ap (λ s. sets.contains s x) left ∙ sets.contains-difference nat_cmp_total rest members x ∙ ap (λ b. sets.contains rest x && not b) (contains-members x) ∙ short (sets.contains rest x) (has_value processes key v x)
    where
      short : (a b : Bool) → (a && not (a && b)) ≡ (a && not b)
      short true b = refl
      short false b = refl

-- those taken have the process, so fewer are left
pub fewer-taken : (processes : List Locality) (key : Key) (p : ℕ) (rest members rest' : sets.FinSet nat_cmp) → HasTaken processes key p rest members rest'
    → sets.contains rest p ≡ true → p < 1024 → present (sets.contains rest') 1024 < present (sets.contains rest) 1024
fewer-taken processes key p rest members rest' t here small =
    fewer (sets.contains rest) (sets.contains rest') (λ x h. first _ _ (sym (t.left x) ∙ h)) 1024 p small here
    (t.left p ∙ gone (sets.contains rest p) (has_value processes key t.value p) (ap (λ o. option_eq bytes_eq o (Some t.value)) t.had ∙ nat_list_eq_equiv.refl t.value))
  where
    first : (a b : Bool) → (a && b) ≡ true → a ≡ true
    first true b e = refl
    first false b e = e

    gone : (a b : Bool) → b ≡ true → (a && not b) ≡ false
    gone true true e = refl
    gone true false e = absurd (let x : ⊥ = cc in x)
    gone false b e = refl

pub dropped-others : (rest rest' : sets.FinSet nat_cmp) (p : ℕ) → rest' ≡ sets.remove rest p → (x : ℕ) → x ≢ p → sets.contains rest' x ≡ sets.contains rest x
dropped-others rest rest' p is x other = ap (λ s. sets.contains s x) is ∙ sets.contains-remove nat_cmp_total rest p x ∙ ap (λ b. not b && sets.contains rest x) (unsigned_tied x p) ∙ keep x p _ other
  where
    keep : (x p : ℕ) (b : Bool) → x ≢ p → (not (eqb x p) && b) ≡ b
    keep x p b ne = grind (arith, nat_tests)

pub dropped-itself : (rest rest' : sets.FinSet nat_cmp) (p : ℕ) → rest' ≡ sets.remove rest p → sets.contains rest' p ≡ false
dropped-itself rest rest' p is = ap (λ s. sets.contains s p) is ∙ sets.contains-remove nat_cmp_total rest p p ∙ ap (λ b. not b && sets.contains rest p) (unsigned_tied p p) ∙ itself p _
  where
    itself : (p : ℕ) (b : Bool) → (not (eqb p p) && b) ≡ false
    itself p b = grind (arith, nat_tests)

pub empty_has : (rest : sets.FinSet nat_cmp) → rest ≡ sets.empty → (x : ℕ) → sets.contains rest x ≡ false
empty_has rest empty x = ap (λ s. sets.contains s x) empty ∙ sets.contains-empty nat_cmp x
