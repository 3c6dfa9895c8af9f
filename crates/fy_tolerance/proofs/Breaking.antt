-- what the loop over the values of a key knows of a group without a set in which parts lie
use Rattle.std.proofs.Common.{◌≡◌, ◌≢◌, ℕ, ◌+◌, ◌-◌, ◌<◌, ◌≤◌, Bool, true, false, cond, leb, ◌&&◌, not, List, [], ◌∷◌, ◌++◌, length, length-append, Some, None, refl, sym, ap, subst, ◌∙◌, true≢false, arith}
use Rattle.std.specs.Ordering.{nat_cmp}
use Rattle.std.specs.FinSet as sets
use Rattle.std.specs.List.{count_by}
use Rattle.std.proofs.lemmas.Bool.Decides.{nat_tests}
use Rattle.fy_locality.specs.declared.locality.Locality.{Locality}
use Rattle.fy_locality.specs.declared.key.Key.{Key}
use Rattle.fy_locality.specs.Locality.{has_value, value_of}
use Rattle.fy_policy.specs.Counted.{number_of, passing}
use Rattle.fy_policy.specs.Sat.{Sat, group, outside, satisfies}
use Rattle.fy_policy.specs.Laws.{KeylessPassNothing, MoreSatisfies, NobodyPasses, TestIsSatisfaction, ValuesPassApart}
use Rattle.fy_policy.specs.Tree.{Tree, one, across, IsWellFormed}
use Rattle.fy_policy.proofs.Walk.{satisfies-across}
use Rattle.fy_tolerance.specs.Costs.{IsBreaking, IsWithin, lies_in}
use Rattle.fy_tolerance.specs.declared.parts.Part.{Part}
use Rattle.fy_tolerance.proofs.Sufficing.{more_pass}
use Rattle.fy_tolerance.proofs.Taking.{count_push, lies_within}

-- a group without a set
abbrev pub kept : (all : ℕ → Bool) → sets.FinSet nat_cmp → ℕ → Bool
kept all set p = all p && not (sets.contains set p)

-- what a larger set doesn't satisfy, a smaller one doesn't
pub less_fail : TestIsSatisfaction → MoreSatisfies → (processes : List Locality) (policy : Tree) (s t : ℕ → Bool) → IsWithin s t → satisfies processes policy t ≡ false → satisfies processes policy s ≡ false
less_fail tested more processes policy s t within unsat = go (satisfies processes policy s) refl
  where
    go : (b : Bool) → satisfies processes policy s ≡ b → b ≡ false
    go true e = absurd (true≢false (sym (more_pass tested more processes policy s t within e) ∙ unsat))
    go false e = refl

module _ (processes : List Locality) (key : Key) (q : Tree) (all : ℕ → Bool) where
  -- each part that lies in the set has a value that doesn't pass without it
  abbrev pub BrokenSoFar : (rest : ℕ → Bool) → List Part → sets.FinSet nat_cmp → Type 0
  BrokenSoFar rest parts set =
      count_by (lies_in set) parts + passing processes key q (kept all set)
      ≤ length parts + passing processes key q (λ p. kept all set p && rest p)

  pub broken-begins : (set : sets.FinSet nat_cmp) → BrokenSoFar all [] set
  broken-begins set =
      let same : (p : ℕ) → (kept all set p && all p) ≡ kept all set p = λ p. both (all p) (sets.contains set p) in
      let pass : passing processes key q (λ p. kept all set p && all p) ≡ passing processes key q (kept all set) = (λ i. passing processes key q (λ p. same p i)) in
      ends _ _ pass
    where
      both : (a s : Bool) → ((a && not s) && a) ≡ (a && not s)
      both true true = refl
      both true false = refl
      both false s = refl

      ends : (a b : ℕ) → a ≡ b → 0 + b ≤ 0 + a
      ends a b e = omega arith

  -- ---- a value's members are looked at and taken out
  module _ (splits : ValuesPassApart) (tested : TestIsSatisfaction) (more : MoreSatisfies) (counted : IsWellFormed q) (rest members rest' : ℕ → Bool) (v : List ℕ) (p : ℕ) (at : value_of processes key p ≡ Some v)
      (found : (x : ℕ) → members x ≡ group processes key v rest x) (left : (x : ℕ) → rest' x ≡ outside processes key v rest x) where
    apart : (t r h r' : Bool) → r' ≡ (r && not h) → ((t && r) && not h) ≡ (t && r')
    apart true r h r' e = sym e
    apart false r h r' e = refl

    module _ (part : Part) (set : sets.FinSet nat_cmp) (lies : lies_in set part ≡ true) where
      members_kept : (x : ℕ) → group processes key v (λ y. kept all set y && rest y) x ≡ true → kept members part.set x ≡ true
      members_kept x h = parts (all x) (sets.contains set x) (rest x) (has_value processes key v x) (members x) (sets.contains part.set x) (found x) ((lies_within set part lies).1 x) h
        where
          parts : (a s r h m t : Bool) → m ≡ (r && h) → (t ≡ true → s ≡ true) → (((a && not s) && r) && h) ≡ true → (m && not t) ≡ true
          parts true false true true m t e f g = ap (λ b. b && not t) e ∙ ap not (off t f)
            where
              off : (t : Bool) → (t ≡ true → false ≡ true) → t ≡ false
              off true f = sym (f refl)
              off false f = refl
          parts true false true false m t e f g = absurd (true≢false (sym g))
          parts true false false h m t e f g = absurd (true≢false (sym g))
          parts true true r h m t e f g = absurd (true≢false (sym g))
          parts false s r h m t e f g = absurd (true≢false (sym g))

      fails : (part.least ≤ 1024 → IsBreaking processes q members part) → satisfies processes q (group processes key v (λ y. kept all set y && rest y)) ≡ false
      fails breaking = less_fail tested more processes q _ (kept members part.set) members_kept (breaking (lies_within set part lies).0).broken

    pub broken-goes-on : (parts : List Part) (part : Part) → (part.least ≤ 1024 → IsBreaking processes q members part) → (set : sets.FinSet nat_cmp) → BrokenSoFar rest parts set → BrokenSoFar rest' (parts ++ part ∷ []) set
    broken-goes-on parts part breaking set so_far =
        let here : ℕ → Bool = λ x. kept all set x && rest x in
        let split : passing processes key q here ≡ cond (satisfies processes q (group processes key v here)) 1 0 + passing processes key q (outside processes key v here) = splits processes key q v here counted (p, at) in
        let rest_is : passing processes key q (outside processes key v here) ≡ passing processes key q (λ x. kept all set x && rest' x) = (λ i. passing processes key q (λ x. apart (kept all set x) (rest x) (has_value processes key v x) (rest' x) (left x) i)) in
        let one_of_both : cond (lies_in set part) 1 0 + cond (satisfies processes q (group processes key v here)) 1 0 ≤ 1 = once (lies_in set part) _ (λ lies. fails part set lies breaking) in
        ends _ _ _ _ _ _ _ _ _ _ (count_push (lies_in set) parts part) (length-append parts (part ∷ [])) split rest_is one_of_both so_far
      where
        once : (a b : Bool) → (a ≡ true → b ≡ false) → cond a 1 0 + cond b 1 0 ≤ 1
        once true true h = absurd (true≢false (h refl))
        once true false h = omega arith
        once false true h = omega arith
        once false false h = omega arith

        ends : (n' n l m' m here σ out out' all : ℕ) → n' ≡ n + l → m' ≡ m + 1 → here ≡ σ + out → out ≡ out' → l + σ ≤ 1 → n + all ≤ m + here → n' + all ≤ m' + out'
        ends n' n l m' m here σ out out' all e d f g h so = omega arith

  -- ---- a process without the key is dropped
  pub broken-skips : KeylessPassNothing → (rest rest' : ℕ → Bool) (p : ℕ) → value_of processes key p ≡ None → ((x : ℕ) → x ≢ p → rest' x ≡ rest x) → (parts : List Part) (set : sets.FinSet nat_cmp) → BrokenSoFar rest parts set → BrokenSoFar rest' parts set
  broken-skips nothing rest rest' p keyless same parts set so_far =
      let pass : passing processes key q (λ x. kept all set x && rest x) ≡ passing processes key q (λ x. kept all set x && rest' x) = nothing processes key q p _ _ keyless (λ x other. ap (λ b. kept all set x && b) (sym (same x other))) in
      subst (λ n. count_by (lies_in set) parts + passing processes key q (kept all set) ≤ length parts + n) pass so_far

  -- ---- nothing is left, and so many parts lie in the set
  pub broken-ends : NobodyPasses → IsWellFormed q → (rest : ℕ → Bool) → ((x : ℕ) → rest x ≡ false) → (parts : List Part) (set : sets.FinSet nat_cmp) (wanted broken : ℕ) → 1 ≤ wanted → broken ≡ length parts - (wanted - 1) → broken ≤ count_by (lies_in set) parts → BrokenSoFar rest parts set → satisfies processes (across wanted key q) (kept all set) ≡ false
  broken-ends nobody counted rest empty parts set wanted broken some is many so_far =
      let zero_left : passing processes key q (λ x. kept all set x && rest x) ≡ 0 = nobody processes key q _ counted (λ x. off (kept all set x) (rest x) (empty x)) in
      satisfies-across processes wanted key q (kept all set) ∙ test wanted _ (ends _ _ _ _ _ _ some is many zero_left so_far)
    where
      off : (a b : Bool) → b ≡ false → (a && b) ≡ false
      off true b e = e
      off false b e = refl

      ends : (w b m n r a : ℕ) → 1 ≤ w → b ≡ m - (w - 1) → b ≤ n → r ≡ 0 → n + a ≤ m + r → a < w
      ends w b m n r a e f g h so = omega arith

      test : (n m : ℕ) → m < n → leb n m ≡ false
      test n m h = grind (arith, nat_tests)

-- ---- one process
nobody_of : TestIsSatisfaction → (processes : List Locality) (s : ℕ → Bool) → ((p : ℕ) → s p ≡ false) → (b : Bool) → satisfies processes one s ≡ b → b ≡ false
unfolding Sat
nobody_of tested processes s none true e = let found : (p : ℕ) × (p < length processes) × (s p ≡ true) = (tested processes one s).0 e in absurd (true≢false (sym found.2 ∙ none found.0))
nobody_of tested processes s none false e = refl

pub one-broken : TestIsSatisfaction → (processes : List Locality) (all : sets.FinSet nat_cmp) (found : Part) → found.set ≡ all → found.least ≡ number_of (sets.contains all) (length processes) → IsBreaking processes one (sets.contains all) found
one-broken tested processes all found same is = record {
  small = (let e : number_of (sets.contains found.set) (length processes) ≡ found.least = ap (λ s. number_of (sets.contains s) (length processes)) same ∙ sym is in omega arith);
  broken = nobody_of tested processes _ (λ p. ap (λ s. sets.contains all p && not (sets.contains s p)) same ∙ never (sets.contains all p)) _ refl;
}
  where
    never : (b : Bool) → (b && not b) ≡ false
    never true = refl
    never false = refl
