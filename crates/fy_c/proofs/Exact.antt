-- the least number of processes that may be lost, and whether it is exact
use Rattle.std.proofs.Common.{◌≡◌, ◌+◌, ◌<◌, ◌≤◌, ◌==◌, zero, suc, inl, inr, ℕ, Bool, true, false, cond, min, List, [], ◌∷◌, length, refl, sym, subst, ◌∙◌, arith}
use Rattle.std.specs.List.{AllZip}
use Rattle.std.specs.FinSet as sets
use Rattle.std.proofs.lemmas.Bool.{false≢true, cases_lt, or_cases, or_left, or_right, and_parts, eqb-true}
use Rattle.std.proofs.lemmas.Bool.Decides.{nat_tests}
use Rattle.fy_locality.specs.declared.locality.Locality.{Locality}
use Rattle.fy_policy.specs.Counted.{number_of}
use Rattle.fy_policy.specs.Tree.{Tree}
use Rattle.fy_decide.specs.Safety.{MayDestroy}
use Rattle.fy_decide.specs.declared.dead_book.Loss.{Loss}
use Rattle.fy_decide.specs.declared.dead_book.Loss.TheVariants.{Emptied, Gone}
use Rattle.fy_decide.specs.DeadBook.{Losses}
use Rattle.fy_tolerance.specs.Bears.{IsTolerance, least_any}
use Rattle.fy_tolerance.specs.declared.tolerance.Tolerance.{Tolerance}
use Rattle.fy_c.specs.Bearing.{is_exact, is_exact_at}
use Rattle.fy_c.specs.Numbers.{bit}

-- what all policies bear, the first bears and the others do
apart : (processes : List Locality) (policy : Tree) (policies : List Tree) (d l s : ℕ → Bool) (loss : Loss) → MayDestroy processes (policy ∷ policies) d l s loss
    → MayDestroy processes (policy ∷ []) d l s loss × MayDestroy processes policies d l s loss
apart processes policy policies d l s Emptied may = ((may.0, tt), may.1)
apart processes policy policies d l s Gone may = (((may.0.0, tt), (may.1.0, tt)), (may.0.1, may.1.1))

abbrev pub AreTolerances : Losses → Loss → List Tree → List Tolerance → Type 0
AreTolerances dead loss policies found = AllZip (λ policy one. IsTolerance dead policy loss one) policies found

-- where the number is exact for a policy, no greater number is borne by all
pub none_greater : (dead : Losses) (loss : Loss) (policies : List Tree) (found : List Tolerance) (any : ℕ) → AreTolerances dead loss policies found → is_exact any found ≡ true
    → (count : ℕ) → ((s : ℕ → Bool) → number_of s (length dead.processes) ≤ count → MayDestroy dead.processes policies (sets.contains dead.destroyed) (sets.contains dead.left) s loss) → count ≤ any
none_greater dead loss [] [] any all exact count borne = absurd (false≢true exact)
none_greater dead loss [] (one ∷ found) any all exact count borne = absurd all
none_greater dead loss (policy ∷ policies) [] any all exact count borne = absurd all
none_greater dead loss (policy ∷ policies) (one ∷ found) any all exact count borne =
    elim (or_cases (is_exact_at any one) (is_exact any found) exact) [
      | inl here ↦
          let parts = and_parts (one.any == any) _ here in
          let same : one.any ≡ any = eqb-true one.any any parts.0 in
          let few : count ≤ one.any = all.0.greatest (eqb-true (sets.len one.too_many) (one.any + 1) parts.1) count (λ s small. (apart dead.processes policy policies _ _ s loss (borne s small)).0) in
          subst (λ n. count ≤ n) same few
      | inr behind ↦ none_greater dead loss policies found any all.1 behind count (λ s small. (apart dead.processes policy policies _ _ s loss (borne s small)).1)
    ]

at_most : (s : ℕ → Bool) (n : ℕ) → number_of s n ≤ n
at_most s zero = omega arith
at_most s (suc n) = go (s n) (at_most s n)
  where
    go : (b : Bool) → number_of s n ≤ n → cond b 1 0 + number_of s n ≤ suc n
    go true few = omega (arith, few)
    go false few = omega (arith, few)

-- not all processes may be lost
below_all : (dead : Losses) (loss : Loss) (policy : Tree) (one : Tolerance) → IsTolerance dead policy loss one → one.any < length dead.processes
below_all dead loss policy one is = elim (cases_lt one.any (length dead.processes)) [
  | inl below ↦ below
  | inr above ↦
      let few : number_of (sets.contains one.too_many) (length dead.processes) ≤ length dead.processes = at_most (sets.contains one.too_many) (length dead.processes) in
      absurd (is.too_many (is.any (sets.contains one.too_many) (omega (arith, few, above))))
]

-- the least number is 0 only where it is that of a policy, for which one process is too many
zero_found : (dead : Losses) (loss : Loss) (policies : List Tree) (found : List Tolerance) (most : ℕ) → AreTolerances dead loss policies found → 0 < most → least_any most found ≡ 0 → is_exact 0 found ≡ true
zero_found dead loss [] [] most all some none = absurd (omega (arith, some, none))
zero_found dead loss [] (one ∷ found) most all some none = absurd all
zero_found dead loss (policy ∷ policies) [] most all some none = absurd all
zero_found dead loss (policy ∷ policies) (one ∷ found) most all some none = elim (cases_lt 0 one.any) [
  | inl more ↦ or_right (is_exact_at 0 one) (is_exact 0 found) (zero_found dead loss policies found (min most one.any) all.1 (omega (arith, some, more)) none)
  | inr least ↦
      let nothing : one.any ≡ 0 = omega (arith, least) in
      let alone : sets.len one.too_many ≡ 1 = all.0.none nothing in
      or_left (is_exact_at 0 one) (is_exact 0 found) (grind (arith, nat_tests, nothing, alone))
]

pub zero_is_exact : (dead : Losses) (loss : Loss) (policies : List Tree) (found : List Tolerance) (any : ℕ) → AreTolerances dead loss policies found → 0 < length policies
    → any ≡ least_any (length dead.processes) found → any ≡ 0 → is_exact any found ≡ true
zero_is_exact dead loss [] found any all some least none = absurd (omega (arith, some))
zero_is_exact dead loss (policy ∷ policies) [] any all some least none = absurd all
zero_is_exact dead loss (policy ∷ policies) (one ∷ found) any all some least none =
    let there : one.any < length dead.processes = below_all dead loss policy one all.0 in
    let many : 0 < length dead.processes = omega (arith, there) in
    subst (λ n. is_exact n (one ∷ found) ≡ true) (sym none)
    (zero_found dead loss (policy ∷ policies) (one ∷ found) (length dead.processes) all many (sym least ∙ none))

pub bit_of : (b : Bool) → bit b 1 ≡ 1 → b ≡ true
bit_of true e = refl
bit_of false e = absurd (omega (arith, e))
