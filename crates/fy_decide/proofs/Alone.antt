-- the one process of a set, found among its words
use Rattle.std.proofs.Common.{inl, inr, ◌≡◌, ◌≢◌, ℕ, ◌+◌, ◌*◌, ◌/◌, ◌%◌, ◌^◌, ◌<◌, ◌≤◌, Bool, true, false, true≢false, ltb, eqb, ◌&&◌, ◌||◌, not, List, Option, Some, None, get_or, refl, sym, ap, ap₂, subst, ◌∙◌, arith}
use Rattle.std.specs.Prelude.{is_some, IfSome}
use Rattle.std.specs.Ordering.{nat_cmp}
use Rattle.std.specs.Int.{bit_at, w64, trailing_zeros}
use Rattle.std.specs.FinSet as sets
use Rattle.std.specs.Cmp.{nat_cmp_total, unsigned_tied}
use Rattle.std.proofs.lemmas.Bool.{cases_eq, cases_lt}
use Rattle.std.proofs.lemmas.Bool.Decides.{nat_tests}
use Rattle.std.proofs.lemmas.Nat.Bits.{bit_at-zero, bit_at-pow_same, bit_at-pow_other, bit_at-trailing_zeros}
use Rattle.std.proofs.lemmas.Nat.{pow_below}
use Rattle.fy_locality.specs.declared.ProcId.{ProcId}
use Rattle.fy_locality.specs.declared.key.Key.TheVariants.{Process}
use Rattle.fy_locality.specs.declared.locality.Locality.{Locality}
use Rattle.fy_locality.specs.Locality.{value_of, has_value, NamesDiffer}
use Rattle.fy_locality.specs.Values.{ValueIsHad}
use Rattle.fy_decide.specs.Verdicts.{targets}
use Rattle.fy_grants.specs.Least.{LeastWith}
use Rattle.fy_locality.specs.Members.{has_bit, members}
use Rattle.fy_locality.specs.MembersInverse.{contains-members}

abbrev pub is_found : Option ProcId → ℕ → Bool
is_found None q = false
is_found (Some p) q = eqb q p.0

-- of the first k words only the one that was found has a bit
pub record HaveFound (ws : List ℕ) (k : ℕ) (found : Option ProcId) : Type 0 where
  pub before : (q : ℕ) → is_found found q ≡ true → q < k * 64
  pub each : (q : ℕ) → q < k * 64 → has_bit ws q ≡ is_found found q

bit-in : (ws : List ℕ) (k q : ℕ) → k * 64 ≤ q → q < (k + 1) * 64 → has_bit ws q ≡ eqb (bit_at (get_or ws k 0) (q % 64)) 1
bit-in ws k q low high = let at : q / 64 ≡ k = omega arith in ap (λ j. eqb (bit_at (get_or ws j 0) (q % 64)) 1) at

pub found-none : (ws : List ℕ) (k : ℕ) (found : Option ProcId) → HaveFound ws k found → get_or ws k 0 ≡ 0 → HaveFound ws (k + 1) found
found-none ws k found was zeros = record {
  before = λ q e. let h : q < k * 64 = was.before q e in omega arith;
  each = λ q h. elim (cases_lt q (k * 64)) [
    | inl low ↦ was.each q low
    | inr high ↦ bit-in ws k q high h ∙ ap (λ w. eqb (bit_at w (q % 64)) 1) zeros ∙ ap (λ b. eqb b 1) (bit_at-zero (q % 64)) ∙ sym (away q high (is_found found q) refl)
  ];
}
  where
    away : (q : ℕ) → k * 64 ≤ q → (b : Bool) → is_found found q ≡ b → b ≡ false
    away q high true e = let h : q < k * 64 = was.before q e in absurd (let x : ⊥ = omega arith in x)
    away q high false e = refl

found-one : (ws : List ℕ) (k t : ℕ) (p : ProcId) → HaveFound ws k None → get_or ws k 0 ≡ 2 ^ t → t < 64 → p.0 ≡ k * 64 + t → HaveFound ws (k + 1) (Some p)
found-one ws k t p was power small is = record {
  before = λ q e. within q p.0 is e;
  each = λ q h. elim (cases_lt q (k * 64)) [
    | inl low ↦ was.each q low ∙ under q p.0 is low
    | inr high ↦ bit-in ws k q high h ∙ ap (λ w. eqb (bit_at w (q % 64)) 1) power ∙ (elim (cases_eq (q % 64) t) [
      | inl same ↦ ap (λ i. eqb (bit_at (2 ^ t) i) 1) same ∙ ap (λ b. eqb b 1) (bit_at-pow_same t) ∙ here q p.0 is high h same
      | inr other ↦ ap (λ b. eqb b 1) (bit_at-pow_other t (q % 64) other) ∙ there q p.0 is other
    ])
  ];
}
  where
    within : (q n : ℕ) → n ≡ k * 64 + t → eqb q n ≡ true → q < (k + 1) * 64
    within q n is e = let same : q ≡ n = grind (arith, nat_tests) in omega arith

    under : (q n : ℕ) → n ≡ k * 64 + t → q < k * 64 → false ≡ eqb q n
    under q n is low = let other : q ≢ n = (λ e. let x : ⊥ = omega arith in x) in grind (arith, nat_tests)

    here : (q n : ℕ) → n ≡ k * 64 + t → k * 64 ≤ q → q < (k + 1) * 64 → q % 64 ≡ t → true ≡ eqb q n
    here q n is low high same = let e : q ≡ n = omega arith in grind (arith, nat_tests)

    there : (q n : ℕ) → n ≡ k * 64 + t → q % 64 ≢ t → false ≡ eqb q n
    there q n is other = let ne : q ≢ n = (λ e. other (let r : q % 64 ≡ t = omega arith in r)) in grind (arith, nat_tests)

-- a word with one bit, after words with none
pub found-next : (ws : List ℕ) (k : ℕ) (found : Option ProcId) (p : ProcId) → HaveFound ws k found → is_some found ≡ false → get_or ws k 0 ≢ 0 → get_or ws k 0 < 2 ^ 64
    → get_or ws k 0 ≡ 1 * 2 ^ trailing_zeros w64 (get_or ws k 0) % 2 ^ 64 → p.0 ≡ k * 64 + trailing_zeros w64 (get_or ws k 0) → HaveFound ws (k + 1) (Some p)
found-next ws k found p was vacant some fits one is =
    let positive : 0 < get_or ws k 0 = omega arith in
    let low = bit_at-trailing_zeros w64 (get_or ws k 0) positive fits in
    let power : 2 ^ trailing_zeros w64 (get_or ws k 0) < 2 ^ 64 = pow_below (trailing_zeros w64 (get_or ws k 0)) 64 low.0 in
    found-one ws k (trailing_zeros w64 (get_or ws k 0)) p (subst (HaveFound ws k) (nothing found vacant) was) (one ∙ small (2 ^ trailing_zeros w64 (get_or ws k 0)) power) low.0 is
  where
    small : (n : ℕ) → n < 2 ^ 64 → 1 * n % 2 ^ 64 ≡ n
    small n h = omega arith

    nothing : (o : Option ProcId) → is_some o ≡ false → o ≡ None
    nothing None e = refl
    nothing (Some q) e = absurd (true≢false e)

pub found-small : (ws : List ℕ) (found : Option ProcId) → HaveFound ws 16 found → IfSome found (λ p. p.0 < 1024)
found-small ws None was = tt
found-small ws (Some p) was = was.before p.0 (itself p.0)
  where
    itself : (n : ℕ) → eqb n n ≡ true
    itself n = grind (arith, nat_tests)

pub found-alone : (ws : List ℕ) (given : sets.FinSet nat_cmp) (found : Option ProcId) → members ws ≡ given → HaveFound ws 16 found → IfSome found (λ p. given ≡ sets.insert sets.empty p.0)
found-alone ws given None is was = tt
found-alone ws given (Some p) is was = sets.same_set nat_cmp_total sets.nat_cmp-IsAntisymmetric given (sets.insert sets.empty p.0) (λ q.
    ap (λ s. sets.contains s q) (sym is)
    ∙ contains-members ws q
    ∙ (elim (cases_lt q 1024) [ inl low ↦ ap (λ b. ltb q 1024 && b) (was.each q low) ∙ inside q p.0 low | inr high ↦ outside q p.0 (has_bit ws q) high (was.before p.0 (itself p.0)) ])
    ∙ sym (sets.contains-insert nat_cmp_total sets.empty p.0 q ∙ (λ i. unsigned_tied q p.0 i || sets.contains-empty nat_cmp q i)))
  where
    itself : (n : ℕ) → eqb n n ≡ true
    itself n = grind (arith, nat_tests)

    inside : (q n : ℕ) → q < 1024 → (ltb q 1024 && eqb q n) ≡ (eqb q n || false)
    inside q n low = grind (arith, nat_tests)

    outside : (q n : ℕ) (b : Bool) → 1024 ≤ q → n < 1024 → (ltb q 1024 && b) ≡ (eqb q n || false)
    outside q n b high low = let ne : q ≢ n = (λ e. let x : ⊥ = omega arith in x) in grind (arith, nat_tests)

-- ---- a set of one process
pub in-one : (given : sets.FinSet nat_cmp) (p q : ℕ) → given ≡ sets.insert sets.empty p → sets.contains given q ≡ eqb q p
in-one given p q is = ap (λ t. sets.contains t q) is ∙ sets.contains-insert nat_cmp_total sets.empty p q ∙ (λ i. unsigned_tied q p i || sets.contains-empty nat_cmp q i) ∙ alone (eqb q p)
  where
    alone : (b : Bool) → (b || false) ≡ b
    alone true = refl
    alone false = refl

pub with-one : (set given : sets.FinSet nat_cmp) (p : ℕ) → given ≡ sets.insert sets.empty p → sets.insert set p ≡ sets.union set given
with-one set given p is = sets.same_set nat_cmp_total sets.nat_cmp-IsAntisymmetric (sets.insert set p) (sets.union set given) (λ q.
    sets.contains-insert nat_cmp_total set p q ∙ ap (λ b. b || sets.contains set q) (unsigned_tied q p) ∙ either (eqb q p) (sets.contains set q)
    ∙ ap (λ b. sets.contains set q || b) (sym (in-one given p q is))
    ∙ sym (sets.contains-union nat_cmp_total set given q))
  where
    either : (a b : Bool) → (a || b) ≡ (b || a)
    either true true = refl
    either true false = refl
    either false true = refl
    either false false = refl

pub without-one : (set given : sets.FinSet nat_cmp) (p : ℕ) → given ≡ sets.insert sets.empty p → sets.remove set p ≡ sets.difference set given
without-one set given p is = sets.same_set nat_cmp_total sets.nat_cmp-IsAntisymmetric (sets.remove set p) (sets.difference set given) (λ q.
    sets.contains-remove nat_cmp_total set p q ∙ ap (λ b. not b && sets.contains set q) (unsigned_tied q p) ∙ both-ways (not (eqb q p)) (sets.contains set q)
    ∙ ap (λ b. sets.contains set q && not b) (sym (in-one given p q is))
    ∙ sym (sets.contains-difference nat_cmp_total set given q))
  where
    both-ways : (a b : Bool) → (a && b) ≡ (b && a)
    both-ways true true = refl
    both-ways true false = refl
    both-ways false true = refl
    both-ways false false = refl

-- whether the one passes a test is whether some does
pub one_passes : (given : sets.FinSet nat_cmp) (p : ProcId) (test : ℕ → Bool) → given ≡ sets.insert sets.empty p.0 → test p.0 ≡ true → LeastWith (sets.contains given) test (Some p)
one_passes given p test is passes = record {
  member = in-one given p.0 p.0 is ∙ itself p.0;
  passes = passes;
  none_below = λ q below member. absurd (apart q p.0 below (sym (in-one given p.0 q is) ∙ member));
}
  where
    itself : (n : ℕ) → eqb n n ≡ true
    itself n = grind (arith, nat_tests)

    apart : (q n : ℕ) → q < n → eqb q n ≡ true → ⊥
    apart q n below e = let same : q ≡ n = grind (arith, nat_tests) in omega arith

pub one_fails : (given : sets.FinSet nat_cmp) (p : ProcId) (test : ℕ → Bool) → given ≡ sets.insert sets.empty p.0 → test p.0 ≡ false → LeastWith (sets.contains given) test None
one_fails given p test is fails = λ q member. ap test (equal q p.0 (sym (in-one given p.0 q is) ∙ member)) ∙ fails
  where
    equal : (a b : ℕ) → eqb a b ≡ true → a ≡ b
    equal a b e = grind (arith, nat_tests)

-- a set of one isn't empty
pub one_is_some : (given : sets.FinSet nat_cmp) (p : ℕ) → given ≡ sets.insert sets.empty p → given ≡ sets.empty → ⊥
one_is_some given p is none = true≢false (sym (itself p) ∙ sym (in-one given p p is) ∙ ap (λ t. sets.contains t p) none ∙ sets.contains-empty nat_cmp p)
  where
    itself : (n : ℕ) → eqb n n ≡ true
    itself n = grind (arith, nat_tests)

-- ---- the process that an order names
open_cases : (a b : Bool) → (b ≡ true → ⊥) → (a && b) ≡ false
open_cases a true never = absurd (never refl)
open_cases true false never = refl
open_cases false false never = refl

-- a name of process p is no other's
not_other : (processes : List Locality) → NamesDiffer processes → ValueIsHad → (p q : ℕ) (name : List ℕ) → value_of processes Process p ≡ Some name → has_value processes Process name q ≡ true → q ≡ p
not_other processes differ had p q name is has = differ q p name ((had processes Process name q).0 has) is

-- a process that is left is the one target of an order that names it
pub one_targeted : (processes : List Locality) (left : sets.FinSet nat_cmp) → NamesDiffer processes → ValueIsHad → (p q : ℕ) (name : List ℕ) → value_of processes Process p ≡ Some name → sets.contains left p ≡ true
    → eqb q p ≡ targets processes (sets.contains left) (record { key = Process; value = name }) q
one_targeted processes left differ had p q name is there = elim (cases_eq q p) [
  | inl same ↦
      let yes : eqb q p ≡ true = grind (arith, nat_tests) in
      yes ∙ sym (ap₂ (λ a b. a && b) (ap (sets.contains left) same ∙ there) ((had processes Process name q).1 (ap (value_of processes Process) same ∙ is)))
  | inr other ↦
      let apart : eqb q p ≡ false = grind (arith, nat_tests) in
      apart ∙ sym (open_cases (sets.contains left q) (has_value processes Process name q) (λ has. other (not_other processes differ had p q name is has)))
]

-- and one that isn't left is none
pub none_targeted : (processes : List Locality) (left : sets.FinSet nat_cmp) → NamesDiffer processes → ValueIsHad → (p q : ℕ) (name : List ℕ) → value_of processes Process p ≡ Some name → sets.contains left p ≡ false
    → false ≡ targets processes (sets.contains left) (record { key = Process; value = name }) q
none_targeted processes left differ had p q name is gone = elim (cases_eq q p) [
  | inl same ↦ sym (ap (λ a. a && has_value processes Process name q) (ap (sets.contains left) same ∙ gone))
  | inr other ↦ sym (open_cases (sets.contains left q) (has_value processes Process name q) (λ has. other (not_other processes differ had p q name is has)))
]

-- the one of a lone set
pub one_within : (given : sets.FinSet nat_cmp) (p q n : ℕ) → given ≡ sets.insert sets.empty p → p < n → sets.contains given q ≡ true → q < n
one_within given p q n is small member = subst (λ i. i < n) (sym (equal q p (sym (in-one given p q is) ∙ member))) small
  where
    equal : (a b : ℕ) → eqb a b ≡ true → a ≡ b
    equal a b e = grind (arith, nat_tests)

-- nobody is in the empty set
pub nobody_in : (given : sets.FinSet nat_cmp) (q : ℕ) → given ≡ sets.empty → sets.contains given q ≡ false
nobody_in given q is = ap (λ t. sets.contains t q) is ∙ sets.contains-empty nat_cmp q
