-- what the policy of three zones bears
use Rattle.std.proofs.Common.{◌≡◌, ℕ, zero, suc, ◌≤◌, Bool, true, false, ◌&&◌, ◌||◌, [], ◌∷◌, nat_eq, refl, sym, ◌∙◌, subst, arith, leb-true, eqb-true, inl, inr}
use Rattle.std.specs.Ordering.{nat_cmp}
use Rattle.std.specs.FinSet as sets
use Rattle.std.proofs.lemmas.Bool.{false≢true, or_cases}
use Rattle.fy_locality.specs.Locality.{values_of}
use Rattle.fy_policy.specs.Counted.{number_of}
use Rattle.fy_policy.specs.Laws.{TestIsSatisfaction}
use Rattle.fy_policy.specs.Sat.{Sat, satisfies, all_satisfy}
use Rattle.fy_decide.specs.declared.dead_book.Loss.TheVariants.{Emptied}
use Rattle.fy_decide.specs.Safety.{with_set}
use Rattle.fy_tolerance.specs.Bears.{MayLoseBy, ToleratesAny, PartsMayBeLost}
use Rattle.fy_worked.specs.Tolerated.{three_processes, in_three_zones, three_untouched, ThreeBear}
use Rattle.fy_worked.proofs.Tolerated.{these, these_are, len_more, len_two, one_at_most, none}

-- whether all three are among them
all : (ℕ → Bool) → Bool
all s = s 0 && (s 1 && s 2)

-- those of the three with these answers
picked : (a b c : Bool) → ℕ → Bool
picked a b c zero = a
picked a b c (suc zero) = b
picked a b c (suc (suc p)) = c

all_picked : (a b c : Bool) → satisfies three_processes in_three_zones (picked a b c) ≡ all (picked a b c)
unfolding satisfies all_satisfy values_of all picked
all_picked true true true = refl
all_picked true true false = refl
all_picked true false true = refl
all_picked true false false = refl
all_picked false true true = refl
all_picked false true false = refl
all_picked false false true = refl
all_picked false false false = refl

satisfies_is : (s : ℕ → Bool) → satisfies three_processes in_three_zones s ≡ all s
unfolding satisfies all_satisfy values_of all picked
satisfies_is s = all_picked (s 0) (s 1) (s 2)

two_short : (a b c : Bool) → number_of (picked a b c) 3 ≤ 2 → all (picked a b c) ≡ false
unfolding all picked
two_short false b c few = refl
two_short true false c few = refl
two_short true true false few = refl
two_short true true true few = absurd (omega arith)

few_short : (s : ℕ → Bool) → number_of s 3 ≤ 2 → all s ≡ false
unfolding all picked
few_short s few = two_short (s 0) (s 1) (s 2) few

none_behind : (p : ℕ) → 3 ≤ p → these (0 ∷ 1 ∷ 2 ∷ []) p ≡ true → ⊥
none_behind p late is = elim (or_cases (nat_eq 0 p) _ is) [
  | inl k ↦ let e = eqb-true 0 p k in omega arith
  | inr more ↦ elim (or_cases (nat_eq 1 p) _ more) [
    | inl k ↦ let e = eqb-true 1 p k in omega arith
    | inr last ↦ elim (or_cases (nat_eq 2 p) false last) [
      | inl k ↦ let e = eqb-true 2 p k in omega arith
      | inr k ↦ false≢true k
    ]
  ]
]

one_less : (s : ℕ → Bool) (p : ℕ) → these (0 ∷ 1 ∷ 2 ∷ []) p ≡ true → s p ≡ false → number_of s 3 ≤ 2
one_less s zero is lacks = let first = none (s 0) lacks in omega (arith, one_at_most (s 1), one_at_most (s 2))
one_less s (suc zero) is lacks = let second = none (s 1) lacks in omega (arith, one_at_most (s 0), one_at_most (s 2))
one_less s (suc (suc zero)) is lacks = let third = none (s 2) lacks in omega (arith, one_at_most (s 0), one_at_most (s 1))
one_less s (suc (suc (suc p))) is lacks = absurd (none_behind (suc (suc (suc p))) (omega arith) is)

len_three : sets.len (sets.from_list {R = nat_cmp} (0 ∷ 1 ∷ 2 ∷ [])) ≡ 3
len_three = let two = len_two 1 2 refl in let three = len_more (1 ∷ 2 ∷ []) 0 refl in omega arith

at_most_two : (count : ℕ) → (3 ≤ count → ⊥) → count ≤ 2
at_most_two zero not_three = leb-true 0 2 refl
at_most_two (suc zero) not_three = leb-true 1 2 refl
at_most_two (suc (suc zero)) not_three = leb-true 2 2 refl
at_most_two (suc (suc (suc n))) not_three = absurd (not_three (omega arith))

nobody_with : (s : ℕ → Bool) → with_set (sets.contains three_untouched.destroyed) s ≡ s
nobody_with s i p = sets.contains-empty nat_cmp p i || s p

module _ (law : TestIsSatisfaction) where
  any_two : ToleratesAny three_untouched in_three_zones Emptied 2
  any_two s few = (
    λ sat. false≢true (sym (few_short s few) ∙ sym (satisfies_is s) ∙ (law three_processes in_three_zones s).1 (subst (Sat three_processes in_three_zones) (nobody_with s) sat)),
    tt,
  )

  too_many : MayLoseBy three_untouched in_three_zones (these (0 ∷ 1 ∷ 2 ∷ [])) Emptied → ⊥
  unfolding all
  too_many may =
      let three = these (0 ∷ 1 ∷ 2 ∷ []) in
      may.0 (subst (Sat three_processes in_three_zones) (sym (nobody_with three)) ((law three_processes in_three_zones three).0 (satisfies_is three)))

  pub bears : ThreeBear 2 (0 ∷ 1 ∷ 2 ∷ [])
  bears = record {
    any = any_two;
    too_many = subst (λ s. MayLoseBy three_untouched in_three_zones s Emptied → ⊥) (sym (these_are (0 ∷ 1 ∷ 2 ∷ []))) too_many;
    least = subst (PartsMayBeLost three_untouched in_three_zones Emptied) (sym (these_are (0 ∷ 1 ∷ 2 ∷ []))) (λ part p within is lacks. any_two part (one_less part p is lacks));
    greatest = λ len count every. at_most_two count (λ many. too_many (every (these (0 ∷ 1 ∷ 2 ∷ [])) many));
    none = λ zero. absurd (omega arith);
    exact = λ simple. len_three;
  }

pub fewer : ThreeBear 1 (0 ∷ 1 ∷ 2 ∷ []) → ⊥
fewer bears = let two = bears.exact tt in let three = len_three in omega arith
