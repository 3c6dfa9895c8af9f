-- counts by groups: what they say, and how they change where one process joins or goes
use Rattle.std.proofs.Common.{inl, inr, zero, suc, ◌≡◌, ◌≢◌, ℕ, ◌+◌, ◌<◌, ◌≤◌, Bool, true, false, cond, ltb, ◌&&◌, not, List, length, filter, Some, None, refl, sym, ap, ◌∙◌, arith}
use Rattle.std.specs.List.{list_any, range_with_len}
use Rattle.std.proofs.lemmas.Bool.{cases_eq}
use Rattle.std.proofs.lemmas.Bool.Decides.{nat_tests}
use Rattle.fy_locality.specs.declared.locality.Locality.{Locality}
use Rattle.fy_locality.specs.declared.key.Key.{Key}
use Rattle.fy_locality.specs.Locality.{has_value, value_of, values_of}
use Rattle.fy_policy.specs.Counted.{number_of, passing}
use Rattle.fy_policy.specs.Sat.{group, outside, satisfies}
use Rattle.fy_policy.specs.Tree.{Tree, one, IsWellFormed}
use Rattle.fy_policy.proofs.Counts.{any_found, found_any, count-without}
use Rattle.fy_policy.proofs.Tests.{ValuesDiffer, ValuesOccur, satisfies-none}
use Rattle.fy_policy.proofs.Walk.{has_none, has_one}

-- ---- how many numbers pass
positive : (a b : ℕ) → a ≡ 1 → 0 < a + b
positive a b e = omega arith

positive' : (a b : ℕ) → 0 < b → 0 < a + b
positive' a b e = omega arith

number-some : (f : ℕ → Bool) (n p : ℕ) → p < n → f p ≡ true → 0 < number_of f n
number-some f zero p h e = absurd (omega arith)
number-some f (suc n) p h e = elim (cases_eq p n) [
  | inl same ↦ let now : f n ≡ true = ap f (sym same) ∙ e in let r : cond (f n) 1 0 ≡ 1 = ap (λ b. cond b 1 0) now in positive (cond (f n) 1 0) (number_of f n) r
  | inr other ↦ positive' (cond (f n) 1 0) (number_of f n) (number-some f n p (omega arith) e)
]

pub number-none : (f : ℕ → Bool) (n : ℕ) → ((p : ℕ) → p < n → f p ≡ false) → number_of f n ≡ 0
number-none f zero nobody = refl
number-none f (suc n) nobody = both (cond (f n) 1 0) (number_of f n) (ap (λ b. cond b 1 0) (nobody n (omega arith))) (number-none f n (λ p h. nobody p (omega arith)))
  where
    both : (a b : ℕ) → a ≡ 0 → b ≡ 0 → a + b ≡ 0
    both a b e f = omega arith

pub number-le : (f : ℕ → Bool) (n : ℕ) → number_of f n ≤ n
number-le f zero = omega arith
number-le f (suc n) = let below : number_of f n ≤ n = number-le f n in go (f n) below
  where
    go : (b : Bool) → number_of f n ≤ n → cond b 1 0 + number_of f n ≤ suc n
    go true h = omega arith
    go false h = omega arith

-- some process, by the count
pub one-number : (processes : List Locality) (s : ℕ → Bool) → ltb 0 (number_of s (length processes)) ≡ satisfies processes one s
unfolding satisfies
one-number processes s = go (list_any s (range_with_len 0 (length processes))) refl
  where
    go : (b : Bool) → list_any s (range_with_len 0 (length processes)) ≡ b → ltb 0 (number_of s (length processes)) ≡ b
    go true e =
        let found = any_found s 0 (length processes) e in
        let below : found.0 < 0 + length processes = found.2 in
        let some : 0 < number_of s (length processes) = number-some s (length processes) found.0 (omega arith) found.3 in
        grind (arith, nat_tests)
    go false e =
        let nobody : number_of s (length processes) ≡ 0 = number-none s (length processes) (λ p h. fails p h (s p) refl) in
        grind (arith, nat_tests)
      where
        fails : (p : ℕ) → p < length processes → (b : Bool) → s p ≡ b → b ≡ false
        fails p h true is = let x : list_any s (range_with_len 0 (length processes)) ≡ true = found_any s 0 (length processes) p (omega arith) (omega arith) is in let y : ⊥ = cc in absurd y
        fails p h false is = refl

pub same_below : (f g : ℕ → Bool) (n : ℕ) → ((q : ℕ) → q < n → f q ≡ g q) → number_of f n ≡ number_of g n
same_below f g zero same = refl
same_below f g (suc n) same =
    λ i. cond (same n (omega arith) i) 1 0 + same_below f g n (λ q h. same q (omega arith)) i

-- two tests that differ at one number
pub number-toggled : (f g : ℕ → Bool) (n p : ℕ) → p < n → ((q : ℕ) → q ≢ p → f q ≡ g q) → number_of g n + cond (f p) 1 0 ≡ number_of f n + cond (g p) 1 0
number-toggled f g zero p h same = absurd (omega arith)
number-toggled f g (suc n) p h same = elim (cases_eq p n) [
  | inl here ↦ first _ _ _ _ _ _ (ap (λ k. cond (f k) 1 0) here) (ap (λ k. cond (g k) 1 0) here) (same_below f g n (λ q below. same q (λ e. apart q below e here)))
  | inr other ↦ later _ _ _ _ _ _ (ap (λ b. cond b 1 0) (same n (λ e. other (sym e)))) (number-toggled f g n p (omega arith) same)
]
  where
    apart : (q : ℕ) → q < n → q ≡ p → p ≡ n → ⊥
    apart q below e here = omega arith

    first : (fp fn gp gn nf ng : ℕ) → fp ≡ fn → gp ≡ gn → nf ≡ ng → gn + ng + fp ≡ fn + nf + gp
    first fp fn gp gn nf ng a b c = omega arith

    later : (fp fn gp gn nf ng : ℕ) → fn ≡ gn → ng + fp ≡ nf + gp → gn + ng + fp ≡ fn + nf + gp
    later fp fn gp gn nf ng a b = omega arith

-- ---- two sets that differ in the group of one value
module _ (processes : List Locality) (key : Key) (q : Tree) (differ : ValuesDiffer) (occur : ValuesOccur) (counted : IsWellFormed q) where
  pub taken : (s : ℕ → Bool) (p : ℕ) (v : List ℕ) → value_of processes key p ≡ Some v → passing processes key q s ≡ cond (satisfies processes q (group processes key v s)) 1 0 + passing processes key q (outside processes key v s)
  taken s p v at =
      count-without (λ w. satisfies processes q (group processes key w s)) (λ w. satisfies processes q (group processes key w (outside processes key v s))) v
      (λ w apart. λ i. satisfies processes q (λ x. kept (s x) (has_value processes key v x) (has_value processes key w x) (has_one processes key v w x apart) i))
      (satisfies-none processes q _ counted (λ x h. empty (s x) (has_value processes key v x)))
      (values_of processes key) (differ processes key) ((occur processes key v).1 (p, at))
    where
      kept : (a b c : Bool) → (b && c) ≡ false → (a && c) ≡ ((a && not b) && c)
      kept true true true e = absurd (let x : ⊥ = cc in x)
      kept true true false e = refl
      kept true false c e = refl
      kept false b c e = refl

      empty : (a b : Bool) → ((a && not b) && b) ≡ false
      empty true true = refl
      empty true false = refl
      empty false b = refl

  pub passing-toggled : (s t : ℕ → Bool) (p : ℕ) (v : List ℕ) → value_of processes key p ≡ Some v → ((x : ℕ) → has_value processes key v x ≡ false → s x ≡ t x)
      → passing processes key q t + cond (satisfies processes q (group processes key v s)) 1 0 ≡ passing processes key q s + cond (satisfies processes q (group processes key v t)) 1 0
  passing-toggled s t p v at same =
      let a = taken s p v at in
      let b = taken t p v at in
      let rest : passing processes key q (outside processes key v s) ≡ passing processes key q (outside processes key v t) = (λ i. passing processes key q (λ x. agree x (has_value processes key v x) refl i)) in
      sums _ _ _ _ _ _ a b rest
    where
      agree : (x : ℕ) (b : Bool) → has_value processes key v x ≡ b → (s x && not b) ≡ (t x && not b)
      agree x true e = nobody (s x) (t x)
        where
          nobody : (a b : Bool) → (a && false) ≡ (b && false)
          nobody true true = refl
          nobody true false = refl
          nobody false true = refl
          nobody false false = refl
      agree x false e = ap (λ b. b && true) (same x e)

      sums : (ps pt ls lt cs ct : ℕ) → ps ≡ cs + ls → pt ≡ ct + lt → ls ≡ lt → pt + cs ≡ ps + ct
      sums ps pt ls lt cs ct e f g = omega arith

-- a process without the key joins or goes
pub passing-keyless' : (processes : List Locality) (key : Key) (q : Tree) (s t : ℕ → Bool) (p : ℕ) → value_of processes key p ≡ None → ((x : ℕ) → x ≢ p → s x ≡ t x) → passing processes key q s ≡ passing processes key q t
passing-keyless' processes key q s t p keyless same = λ i. length (filter (λ v. satisfies processes q (λ x. alike v x i)) (values_of processes key))
  where
    nothing : (a b c : Bool) → c ≡ false → (a && c) ≡ (b && c)
    nothing a b c e = grind arith

    alike : (v : List ℕ) (x : ℕ) → group processes key v s x ≡ group processes key v t x
    alike v x = elim (cases_eq x p) [
      | inl here ↦ nothing (s x) (t x) _ (has_none processes key v x (ap (value_of processes key) here ∙ keyless))
      | inr other ↦ ap (λ b. b && has_value processes key v x) (same x other)
    ]
