-- what the policy of the four processes bears
use Rattle.std.proofs.Common.{◌≡◌, ℕ, zero, suc, ◌+◌, ◌≤◌, Bool, true, false, not, ◌&&◌, ◌||◌, cond, List, [], ◌∷◌, nat_eq, inl, inr, ◌⊎◌, refl, sym, ap, ◌∙◌, subst, arith, leb-true, eqb-true}
use Rattle.std.specs.List.{list_any}
use Rattle.std.specs.Ordering.{nat_cmp}
use Rattle.std.specs.FinSet as sets
use Rattle.std.specs.Cmp.{nat_cmp_total}
use Rattle.std.proofs.lemmas.Bool.{false≢true, or_cases}
use Rattle.fy_locality.specs.Locality.{values_of}
use Rattle.fy_policy.specs.Counted.{number_of}
use Rattle.fy_policy.specs.Laws.{TestIsSatisfaction}
use Rattle.fy_policy.specs.Sat.{Sat, satisfies, all_satisfy}
use Rattle.fy_decide.specs.declared.dead_book.Loss.{Loss}
use Rattle.fy_decide.specs.declared.dead_book.Loss.TheVariants.{Emptied, Gone}
use Rattle.fy_decide.specs.Safety.{with_set, without_set}
use Rattle.fy_tolerance.specs.Bears.{MayLoseBy, ToleratesAny, PartsMayBeLost}
use Rattle.fy_tolerance.specs.Costs.{IsWithin}
use Rattle.fy_worked.specs.Tolerated.{four_processes, in_two_zones, untouched, Bears}

-- the members of a list as a test
abbrev pub these : List ℕ → ℕ → Bool
these xs p = list_any (λ y. nat_eq y p) xs

pub these_are : (xs : List ℕ) → sets.contains (sets.from_list {R = nat_cmp} xs) ≡ these xs
these_are xs i p = sets.contains-from_list_nat xs p i

-- whether they are in two zones
spans : (ℕ → Bool) → Bool
spans s = (s 0 || s 1) && (s 2 || s 3)

-- those of the four with these answers
picked : (a b c d : Bool) → ℕ → Bool
picked a b c d zero = a
picked a b c d (suc zero) = b
picked a b c d (suc (suc zero)) = c
picked a b c d (suc (suc (suc p))) = d

spans_picked : (a b c d : Bool) → satisfies four_processes in_two_zones (picked a b c d) ≡ spans (picked a b c d)
unfolding satisfies all_satisfy values_of spans picked
spans_picked true true true true = refl
spans_picked true true true false = refl
spans_picked true true false true = refl
spans_picked true true false false = refl
spans_picked true false true true = refl
spans_picked true false true false = refl
spans_picked true false false true = refl
spans_picked true false false false = refl
spans_picked false true true true = refl
spans_picked false true true false = refl
spans_picked false true false true = refl
spans_picked false true false false = refl
spans_picked false false true true = refl
spans_picked false false true false = refl
spans_picked false false false true = refl
spans_picked false false false false = refl

satisfies_is : (s : ℕ → Bool) → satisfies four_processes in_two_zones s ≡ spans s
unfolding satisfies all_satisfy values_of spans picked
satisfies_is s = spans_picked (s 0) (s 1) (s 2) (s 3)

-- ---- what is lost

nobody_with : (s : ℕ → Bool) → with_set (sets.contains untouched.destroyed) s ≡ s
nobody_with s i p = sets.contains-empty nat_cmp p i || s p

-- those left without these
rest : (ℕ → Bool) → ℕ → Bool
rest s p = these (0 ∷ 1 ∷ 2 ∷ 3 ∷ []) p && not (s p)

left_is : (s : ℕ → Bool) → without_set (sets.contains untouched.left) s ≡ rest s
unfolding rest
left_is s i p = these_are (0 ∷ 1 ∷ 2 ∷ 3 ∷ []) i p && not (s p)

-- ---- one of them

one_alone : (a b c d : Bool) → number_of (picked a b c d) 4 ≤ 1 → spans (picked a b c d) ≡ false
unfolding spans picked
one_alone false false c d few = refl
one_alone false true false false few = refl
one_alone false true true d few = absurd (omega arith)
one_alone false true false true few = absurd (omega arith)
one_alone true b false false few = refl
one_alone true b true d few = absurd (omega arith)
one_alone true b false true few = absurd (omega arith)

others_span : (a b c d : Bool) → number_of (picked a b c d) 4 ≤ 1 → spans (rest (picked a b c d)) ≡ true
unfolding spans picked rest
others_span false b false d few = refl
others_span false b true false few = refl
others_span false b true true few = absurd (omega arith)
others_span true false false d few = refl
others_span true false true d few = absurd (omega arith)
others_span true true c d few = absurd (omega arith)

few_short : (s : ℕ → Bool) → number_of s 4 ≤ 1 → spans s ≡ false
unfolding spans picked
few_short s few = one_alone (s 0) (s 1) (s 2) (s 3) few

few_leave : (s : ℕ → Bool) → number_of s 4 ≤ 1 → spans (rest s) ≡ true
unfolding spans picked rest
few_leave s few = others_span (s 0) (s 1) (s 2) (s 3) few

-- ---- parts of two

member : (x y p : ℕ) → these (x ∷ y ∷ []) p ≡ true → (x ≡ p) ⊎ (y ≡ p)
member x y p e = elim (or_cases (nat_eq x p) _ e) [
  | inl k ↦ inl (eqb-true x p k)
  | inr k ↦ elim (or_cases (nat_eq y p) false k) [ inl j ↦ inr (eqb-true y p j) | inr j ↦ absurd (false≢true j) ]
]

outside : (part set : ℕ → Bool) → IsWithin part set → (p : ℕ) → set p ≡ false → part p ≡ false
outside part set within p out = elim (part p) as (λ b. part p ≡ b → b ≡ false) [
  | true ↦ λ e. absurd (false≢true (sym out ∙ within p e))
  | false ↦ λ e. refl
] refl

abbrev pub one_if : Bool → ℕ
one_if b = cond b 1 0

pub none : (b : Bool) → b ≡ false → one_if b ≡ 0
none b e = ap one_if e

pub one_at_most : (b : Bool) → one_if b ≤ 1
one_at_most true = leb-true 1 1 refl
one_at_most false = leb-true 0 1 refl

part_of_two : (part : ℕ → Bool) (p : ℕ) → IsWithin part (these (0 ∷ 2 ∷ [])) → these (0 ∷ 2 ∷ []) p ≡ true → part p ≡ false → number_of part 4 ≤ 1
part_of_two part p within is lacks =
    let second = none (part 1) (outside part (these (0 ∷ 2 ∷ [])) within 1 refl) in
    let fourth = none (part 3) (outside part (these (0 ∷ 2 ∷ [])) within 3 refl) in
    elim (member 0 2 p is) [
      | inl e ↦ let first = none (part 0) (subst (λ q. part q ≡ false) (sym e) lacks) in omega (arith, one_at_most (part 2))
      | inr e ↦ let third = none (part 2) (subst (λ q. part q ≡ false) (sym e) lacks) in omega (arith, one_at_most (part 0))
    ]

part_of_zone : (part : ℕ → Bool) (p : ℕ) → IsWithin part (these (0 ∷ 1 ∷ [])) → these (0 ∷ 1 ∷ []) p ≡ true → part p ≡ false → number_of part 4 ≤ 1
part_of_zone part p within is lacks =
    let third = none (part 2) (outside part (these (0 ∷ 1 ∷ [])) within 2 refl) in
    let fourth = none (part 3) (outside part (these (0 ∷ 1 ∷ [])) within 3 refl) in
    elim (member 0 1 p is) [
      | inl e ↦ let first = none (part 0) (subst (λ q. part q ≡ false) (sym e) lacks) in omega (arith, one_at_most (part 1))
      | inr e ↦ let second = none (part 1) (subst (λ q. part q ≡ false) (sym e) lacks) in omega (arith, one_at_most (part 0))
    ]

-- one member more
pub len_more : (xs : List ℕ) (x : ℕ) → these xs x ≡ false → sets.len (sets.from_list {R = nat_cmp} (x ∷ xs)) ≡ sets.len (sets.from_list {R = nat_cmp} xs) + 1
len_more xs x new =
    let size = sets.len (sets.from_list {R = nat_cmp} xs) in
    sets.len-insert nat_cmp_total (sets.from_list xs) x
    ∙ ap (λ b. cond b size (size + 1)) (sets.contains-from_list_nat xs x ∙ new)

pub len_two : (x y : ℕ) → these (y ∷ []) x ≡ false → sets.len (sets.from_list {R = nat_cmp} (x ∷ y ∷ [])) ≡ 2
len_two x y apart =
    let none = sets.len-empty nat_cmp in
    let one = len_more [] y refl in
    let two = len_more (y ∷ []) x apart in
    omega arith

at_most_one : (count : ℕ) → (2 ≤ count → ⊥) → count ≤ 1
at_most_one zero not_two = leb-true 0 1 refl
at_most_one (suc zero) not_two = leb-true 1 1 refl
at_most_one (suc (suc n)) not_two = absurd (not_two (omega arith))

-- ---- what the policy bears

module _ (law : TestIsSatisfaction) where
  short : (s : ℕ → Bool) → spans s ≡ false → Sat four_processes in_two_zones (with_set (sets.contains untouched.destroyed) s) → ⊥
  short s none sat = false≢true (sym none ∙ sym (satisfies_is s) ∙ (law four_processes in_two_zones s).1 (subst (Sat four_processes in_two_zones) (nobody_with s) sat))

  long : (s : ℕ → Bool) → spans s ≡ true → Sat four_processes in_two_zones (with_set (sets.contains untouched.destroyed) s)
  long s both = subst (Sat four_processes in_two_zones) (sym (nobody_with s)) ((law four_processes in_two_zones s).0 (satisfies_is s ∙ both))

  leaves : (s : ℕ → Bool) → spans (rest s) ≡ true → Sat four_processes in_two_zones (without_set (sets.contains untouched.left) s)
  leaves s both = subst (Sat four_processes in_two_zones) (sym (left_is s)) ((law four_processes in_two_zones (rest s)).0 (satisfies_is (rest s) ∙ both))

  takes : (s : ℕ → Bool) → spans (rest s) ≡ false → Sat four_processes in_two_zones (without_set (sets.contains untouched.left) s) → ⊥
  takes s none sat = false≢true (sym none ∙ sym (satisfies_is (rest s)) ∙ (law four_processes in_two_zones (rest s)).1 (subst (Sat four_processes in_two_zones) (left_is s) sat))

  any_emptied : ToleratesAny untouched in_two_zones Emptied 1
  any_emptied s few = (short s (few_short s few), tt)

  any_gone : ToleratesAny untouched in_two_zones Gone 1
  any_gone s few = ((short s (few_short s few), tt), (leaves s (few_leave s few), tt))

  spanning : (s : ℕ → Bool) (loss : Loss) → spans s ≡ true → MayLoseBy untouched in_two_zones s loss → ⊥
  spanning s Emptied both may = may.0 (long s both)
  spanning s Gone both may = may.0.0 (long s both)

  pub emptied : Bears Emptied 1 (0 ∷ 2 ∷ [])
  unfolding spans
  emptied = record {
    any = any_emptied;
    too_many = subst (λ s. MayLoseBy untouched in_two_zones s Emptied → ⊥) (sym (these_are (0 ∷ 2 ∷ []))) (spanning (these (0 ∷ 2 ∷ [])) Emptied refl);
    least = subst (PartsMayBeLost untouched in_two_zones Emptied) (sym (these_are (0 ∷ 2 ∷ []))) (λ part p within is lacks. any_emptied part (part_of_two part p within is lacks));
    greatest = λ len count all. at_most_one count (λ many. spanning (these (0 ∷ 2 ∷ [])) Emptied refl (all (these (0 ∷ 2 ∷ [])) many));
    none = λ zero. absurd (omega arith);
    exact = λ simple. len_two 0 2 refl;
  }

  pub gone : Bears Gone 1 (0 ∷ 1 ∷ [])
  unfolding spans rest
  gone = record {
    any = any_gone;
    too_many = subst (λ s. MayLoseBy untouched in_two_zones s Gone → ⊥) (sym (these_are (0 ∷ 1 ∷ []))) (λ may. takes (these (0 ∷ 1 ∷ [])) refl may.1.0);
    least = subst (PartsMayBeLost untouched in_two_zones Gone) (sym (these_are (0 ∷ 1 ∷ []))) (λ part p within is lacks. any_gone part (part_of_zone part p within is lacks));
    greatest = λ len count all. at_most_one count (λ many. spanning (these (0 ∷ 2 ∷ [])) Gone refl (all (these (0 ∷ 2 ∷ [])) many));
    none = λ zero. absurd (omega arith);
    exact = λ simple. len_two 0 1 refl;
  }

  -- ---- what it doesn't

  pub more : (loss : Loss) (too_many : List ℕ) → Bears loss 2 too_many → ⊥
  unfolding spans
  more loss too_many bears = spanning (these (0 ∷ 2 ∷ [])) loss refl (bears.any (these (0 ∷ 2 ∷ [])) (leb-true 2 2 refl))

  pub fewer : Bears Emptied 0 (0 ∷ 2 ∷ []) → ⊥
  fewer bears = let one = bears.none refl in let two = len_two 0 2 refl in omega arith

  pub zone_emptied : Bears Emptied 1 (0 ∷ 1 ∷ []) → ⊥
  unfolding spans
  zone_emptied bears = subst (λ s. MayLoseBy untouched in_two_zones s Emptied → ⊥) (these_are (0 ∷ 1 ∷ [])) bears.too_many (short (these (0 ∷ 1 ∷ [])) refl, tt)

  pub one_gone : Bears Gone 1 (0 ∷ []) → ⊥
  one_gone bears = subst (λ s. MayLoseBy untouched in_two_zones s Gone → ⊥) (these_are (0 ∷ [])) bears.too_many (any_gone (these (0 ∷ [])) (leb-true 1 1 refl))

  pub needless : Bears Emptied 1 (0 ∷ 1 ∷ 2 ∷ []) → ⊥
  unfolding spans
  needless bears =
      let parts = subst (PartsMayBeLost untouched in_two_zones Emptied) (these_are (0 ∷ 1 ∷ 2 ∷ [])) bears.least in
      spanning (these (0 ∷ 2 ∷ [])) Emptied refl (parts (these (0 ∷ 2 ∷ [])) 1 among refl refl)
    where
      among : IsWithin (these (0 ∷ 2 ∷ [])) (these (0 ∷ 1 ∷ 2 ∷ []))
      among p is = elim (member 0 2 p is) [
        | inl e ↦ subst (λ q. these (0 ∷ 1 ∷ 2 ∷ []) q ≡ true) e refl
        | inr e ↦ subst (λ q. these (0 ∷ 1 ∷ 2 ∷ []) q ≡ true) e refl
      ]
