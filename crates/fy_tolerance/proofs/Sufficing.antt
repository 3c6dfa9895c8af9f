-- what the loop over the values of a key knows of a set in which parts lie
use Rattle.std.proofs.Common.{inl, inr, ◌≡◌, ◌≢◌, ℕ, ◌+◌, ◌<◌, ◌≤◌, Bool, true, false, cond, leb, ◌&&◌, ◌||◌, not, List, [], ◌∷◌, ◌++◌, length, Some, None, refl, sym, ap, subst, ◌∙◌, true≢false, arith}
use Rattle.std.specs.Ordering.{nat_cmp}
use Rattle.std.specs.FinSet as sets
use Rattle.std.specs.List.{count_by}
use Rattle.std.specs.Cmp.{nat_cmp_total}
use Rattle.std.specs.Prelude.{nat_lt}
use Rattle.std.proofs.lemmas.Bool.{cases_eq}
use Rattle.std.proofs.lemmas.Bool.Decides.{nat_tests}
use Rattle.fy_locality.specs.declared.locality.Locality.{Locality}
use Rattle.fy_locality.specs.declared.key.Key.{Key}
use Rattle.fy_locality.specs.Locality.{has_value, value_of}
use Rattle.fy_policy.specs.Counted.{number_of, passing}
use Rattle.fy_policy.specs.Sat.{Sat, group, outside, satisfies}
use Rattle.fy_policy.specs.Laws.{KeylessPassNothing, MoreSatisfies, TestIsSatisfaction, ValuesPassApart}
use Rattle.fy_policy.specs.Tree.{Tree, one, across, IsWellFormed}
use Rattle.fy_policy.proofs.Walk.{satisfies-across}
use Rattle.fy_decide.specs.Safety.{everyone}
use Rattle.fy_tolerance.specs.Costs.{IsEnough, IsWithin, lies_in}
use Rattle.fy_tolerance.specs.declared.parts.Part.{Part}
use Rattle.fy_tolerance.proofs.Taking.{count_push, lies_within, number_empty}
use Rattle.fy_tolerance.proofs.Tolerating.{in_one, is_in_one, len_one, number_in_set}

-- what a smaller set satisfies, as a test
pub more_pass : TestIsSatisfaction → MoreSatisfies → (processes : List Locality) (policy : Tree) (s t : ℕ → Bool) → IsWithin s t → satisfies processes policy s ≡ true → satisfies processes policy t ≡ true
more_pass tested more processes policy s t within sat = (tested processes policy t).1 (more processes policy s t within ((tested processes policy s).0 sat))

-- a set with the free ones of a group
abbrev pub with_free : (all free : ℕ → Bool) → sets.FinSet nat_cmp → ℕ → Bool
with_free all free set p = sets.contains set p || (all p && free p)

module _ (processes : List Locality) (key : Key) (q : Tree) (all free : ℕ → Bool) where
  -- each part that lies in the set has a value that passes
  abbrev pub EnoughSoFar : (rest : ℕ → Bool) → List Part → sets.FinSet nat_cmp → Type 0
  EnoughSoFar rest parts set =
      count_by (lies_in set) parts + passing processes key q (λ p. with_free all free set p && rest p)
      ≤ passing processes key q (with_free all free set)

  pub enough-begins : (set : sets.FinSet nat_cmp) → IsWithin (sets.contains set) all → EnoughSoFar all [] set
  enough-begins set within =
      let same : (p : ℕ) → (with_free all free set p && all p) ≡ with_free all free set p = λ p. both (sets.contains set p) (all p) (free p) (within p) in
      let pass : passing processes key q (λ p. with_free all free set p && all p) ≡ passing processes key q (with_free all free set) = (λ i. passing processes key q (λ p. same p i)) in
      ends _ _ pass
    where
      both : (s a f : Bool) → (s ≡ true → a ≡ true) → ((s || (a && f)) && a) ≡ (s || (a && f))
      both true a f h = h refl
      both false true true h = refl
      both false true false h = refl
      both false false f h = refl

      ends : (a b : ℕ) → a ≡ b → 0 + a ≤ b
      ends a b e = omega arith

  -- ---- a value's members are looked at and taken out
  module _ (splits : ValuesPassApart) (tested : TestIsSatisfaction) (more : MoreSatisfies) (counted : IsWellFormed q) (rest members rest' : ℕ → Bool) (v : List ℕ) (p : ℕ) (at : value_of processes key p ≡ Some v)
      (found : (x : ℕ) → members x ≡ group processes key v rest x) (left : (x : ℕ) → rest' x ≡ outside processes key v rest x) (inside : IsWithin rest all) where
    apart : (t r h r' : Bool) → r' ≡ (r && not h) → ((t && r) && not h) ≡ (t && r')
    apart true r h r' e = sym e
    apart false r h r' e = refl

    first : (a b : Bool) → (a && b) ≡ true → a ≡ true
    first true b e = refl
    first false b e = e

    second : (a b : Bool) → (a && b) ≡ true → b ≡ true
    second true b e = e
    second false b e = absurd (true≢false (sym e))

    three : (t r h : Bool) → t ≡ true → r ≡ true → h ≡ true → ((t && r) && h) ≡ true
    three t r h a b c = ap (λ x. (x && r) && h) a ∙ ap (λ x. x && h) b ∙ c

    yes : (s a f : Bool) → a ≡ true → f ≡ true → (s || (a && f)) ≡ true
    yes true a f d e = refl
    yes false a f d e = ap (λ x. x && f) d ∙ e

    module _ (part : Part) (within : IsWithin (sets.contains part.set) members) (set : sets.FinSet nat_cmp) (lies : lies_in set part ≡ true) where
      members_in : (x : ℕ) → (sets.contains part.set x || (members x && free x)) ≡ true → group processes key v (λ y. with_free all free set y && rest y) x ≡ true
      members_in x h = go (sets.contains part.set x) refl h
        where
          go : (b : Bool) → sets.contains part.set x ≡ b → (b || (members x && free x)) ≡ true → ((with_free all free set x && rest x) && has_value processes key v x) ≡ true
          go true is e =
              let both : (rest x && has_value processes key v x) ≡ true = sym (found x) ∙ within x is in
              three (with_free all free set x) (rest x) (has_value processes key v x) (ap (λ b. b || (all x && free x)) ((lies_within set part lies).1 x is)) (first _ _ both) (second _ _ both)
          go false is e =
              let both : (rest x && has_value processes key v x) ≡ true = sym (found x) ∙ first (members x) (free x) e in
              three (with_free all free set x) (rest x) (has_value processes key v x) (yes (sets.contains set x) (all x) (free x) (inside x (first _ _ both)) (second (members x) (free x) e)) (first _ _ both) (second _ _ both)

      passes : (part.least ≤ 1024 → IsEnough processes q members free part) → satisfies processes q (group processes key v (λ y. with_free all free set y && rest y)) ≡ true
      passes enough = more_pass tested more processes q (λ x. sets.contains part.set x || (members x && free x)) _ members_in (enough (lies_within set part lies).0).enough

    pub enough-goes-on : (parts : List Part) (part : Part) → IsWithin (sets.contains part.set) members → (part.least ≤ 1024 → IsEnough processes q members free part) → (set : sets.FinSet nat_cmp) → EnoughSoFar rest parts set → EnoughSoFar rest' (parts ++ part ∷ []) set
    enough-goes-on parts part within enough set so_far =
        let here : ℕ → Bool = λ x. with_free all free set x && rest x in
        let split : passing processes key q here ≡ cond (satisfies processes q (group processes key v here)) 1 0 + passing processes key q (outside processes key v here) = splits processes key q v here counted (p, at) in
        let rest_is : passing processes key q (outside processes key v here) ≡ passing processes key q (λ x. with_free all free set x && rest' x) = (λ i. passing processes key q (λ x. apart (with_free all free set x) (rest x) (has_value processes key v x) (rest' x) (left x) i)) in
        let more_lie : cond (lies_in set part) 1 0 ≤ cond (satisfies processes q (group processes key v here)) 1 0 = less (lies_in set part) _ (λ lies. passes part within set lies enough) in
        ends _ _ _ _ _ _ _ _ (count_push (lies_in set) parts part) split rest_is more_lie so_far
      where
        less : (a b : Bool) → (a ≡ true → b ≡ true) → cond a 1 0 ≤ cond b 1 0
        less true true h = omega arith
        less true false h = absurd (true≢false (sym (h refl)))
        less false b h = omega arith

        ends : (n' n l here σ out out' all : ℕ) → n' ≡ n + l → here ≡ σ + out → out ≡ out' → l ≤ σ → n + here ≤ all → n' + out' ≤ all
        ends n' n l here σ out out' all e f g h so = omega arith

  -- ---- a process without the key is dropped
  pub enough-skips : KeylessPassNothing → (rest rest' : ℕ → Bool) (p : ℕ) → value_of processes key p ≡ None → ((x : ℕ) → x ≢ p → rest' x ≡ rest x) → (parts : List Part) (set : sets.FinSet nat_cmp) → EnoughSoFar rest parts set → EnoughSoFar rest' parts set
  enough-skips nothing rest rest' p keyless same parts set so_far =
      let pass : passing processes key q (λ x. with_free all free set x && rest x) ≡ passing processes key q (λ x. with_free all free set x && rest' x) = nothing processes key q p _ _ keyless (λ x other. ap (λ b. with_free all free set x && b) (sym (same x other))) in
      subst (λ n. count_by (lies_in set) parts + n ≤ passing processes key q (with_free all free set)) pass so_far

  -- ---- so many parts lie in the set
  pub enough-ends : (rest : ℕ → Bool) (parts : List Part) (set : sets.FinSet nat_cmp) (wanted : ℕ) → wanted ≤ count_by (lies_in set) parts → EnoughSoFar rest parts set → satisfies processes (across wanted key q) (with_free all free set) ≡ true
  enough-ends rest parts set wanted many so_far = satisfies-across processes wanted key q (with_free all free set) ∙ test wanted _ (ends _ _ _ _ many so_far)
    where
      ends : (w n r a : ℕ) → w ≤ n → n + r ≤ a → w ≤ a
      ends w n r a e f = omega arith

      test : (n m : ℕ) → n ≤ m → leb n m ≡ true
      test n m h = grind (arith, nat_tests)

-- ---- one process
one_of : TestIsSatisfaction → (processes : List Locality) (s : ℕ → Bool) (p : ℕ) → p < length processes → s p ≡ true → satisfies processes one s ≡ true
unfolding Sat
one_of tested processes s p below has = (tested processes one s).1 (p, below, has)

below_all : (p n : ℕ) → nat_lt p n ≡ true → p < n
below_all p n e = grind (arith, nat_tests)

-- one of the group is free
pub one-free : TestIsSatisfaction → (processes : List Locality) (all free both set : sets.FinSet nat_cmp) (p : ℕ) (found : Part) → both ≡ sets.intersection all free → sets.contains both p ≡ true → set ≡ sets.empty → found.set ≡ set → IsWithin (sets.contains all) (everyone processes)
    → IsEnough processes one (sets.contains all) (sets.contains free) found
one-free tested processes all free both set p found is there none same inside =
    let in_both : (sets.contains all p && sets.contains free p) ≡ true = sym (sets.contains-intersection nat_cmp_total all free p) ∙ ap (λ s. sets.contains s p) (sym is) ∙ there in
    record {
      small = (let nobody : number_of (sets.contains found.set) (length processes) ≡ 0 = ap (λ s. number_of (sets.contains s) (length processes)) (same ∙ none) ∙ number_empty (length processes) in omega arith);
      enough = one_of tested processes _ p (below_all p (length processes) (inside p (first _ _ in_both))) (either (sets.contains found.set p) _ in_both);
    }
  where
    first : (a b : Bool) → (a && b) ≡ true → a ≡ true
    first true b e = refl
    first false b e = e

    either : (a b : Bool) → b ≡ true → (a || b) ≡ true
    either true b e = refl
    either false b e = e

-- one of the group alone
pub one-alone : TestIsSatisfaction → (processes : List Locality) (all free set : sets.FinSet nat_cmp) (p : ℕ) (found : Part) → sets.contains all p ≡ true → set ≡ sets.insert sets.empty p → found.set ≡ set → found.least ≡ 1 → IsWithin (sets.contains all) (everyone processes)
    → IsEnough processes one (sets.contains all) (sets.contains free) found
one-alone tested processes all free set p found there is same one_process inside =
    record {
      small = (
          let few : number_of (sets.contains found.set) (length processes) ≤ sets.len found.set = number_in_set found.set (length processes) in
          let one_long : sets.len found.set ≡ 1 = ap sets.len (same ∙ is) ∙ len_one p in
          omega arith
          );
      enough = one_of tested processes _ p (below_all p (length processes) (inside p there)) (ap (λ b. b || (sets.contains all p && sets.contains free p)) (ap (λ s. sets.contains s p) (same ∙ is) ∙ in_one p));
    }

pub one-within : (all set : sets.FinSet nat_cmp) (p : ℕ) → sets.contains all p ≡ true → set ≡ sets.insert sets.empty p → IsWithin (sets.contains set) (sets.contains all)
one-within all set p there is q h = ap (sets.contains all) (is_in_one p q (sym (ap (λ s. sets.contains s q) is) ∙ h)) ∙ there

pub none-within : (all set : sets.FinSet nat_cmp) → set ≡ sets.empty → IsWithin (sets.contains set) (sets.contains all)
none-within all set is q h = absurd (true≢false (sym h ∙ ap (λ s. sets.contains s q) is ∙ sets.contains-empty nat_cmp q))

pub union-within : (s t u : sets.FinSet nat_cmp) (all : ℕ → Bool) → u ≡ sets.union s t → IsWithin (sets.contains s) all → IsWithin (sets.contains t) all → IsWithin (sets.contains u) all
union-within s t u all is a b p h = either (sets.contains s p) (sets.contains t p) (a p) (b p) (sym (sets.contains-union nat_cmp_total s t p) ∙ sym (ap (λ x. sets.contains x p) is) ∙ h)
  where
    either : (x y : Bool) → (x ≡ true → all p ≡ true) → (y ≡ true → all p ≡ true) → (x || y) ≡ true → all p ≡ true
    either true y f g e = f refl
    either false y f g e = g e

-- what is left of the rest once one was dropped
pub kept-within : (rest rest' : ℕ → Bool) (p : ℕ) → ((x : ℕ) → x ≢ p → rest' x ≡ rest x) → rest' p ≡ false → IsWithin rest' rest
kept-within rest rest' p same gone x h = elim (cases_eq x p) [
  | inl here ↦ absurd (true≢false (sym h ∙ ap rest' here ∙ gone))
  | inr other ↦ sym (same x other) ∙ h
]
