-- the values that occur in a set, one after another
use Rattle.std.proofs.Common.{inl, inr, ◌≡◌, ◌≢◌, ℕ, ◌+◌, ◌<◌, ◌≤◌, Bool, true, false, cond, leb, eqb, ltb, ◌&&◌, not, List, length, filter, Option, Some, None, refl, sym, ap, ◌∙◌, arith}
use Rattle.std.specs.Ordering.{nat_cmp}
use Rattle.std.specs.FinSet as sets
use Rattle.std.specs.Cmp.{nat_cmp_total, unsigned_tied}
use Rattle.std.specs.List.{list_any, range_with_len}
use Rattle.std.specs.Option.{option_eq}
use Rattle.std.specs.Str.{bytes_eq}
use Rattle.std.proofs.lemmas.Bool.{cases_eq}
use Rattle.std.proofs.lemmas.Bool.Decides.{nat_tests}
use Rattle.std.proofs.lemmas.Cmp.{nat_list_eq_equiv}
use Rattle.std.proofs.lemmas.Slice.Eq.{bytes_eq-Decides}
use Rattle.fy_locality.specs.declared.locality.Locality.{Locality}
use Rattle.fy_locality.specs.declared.key.Key.{Key}
use Rattle.fy_locality.specs.Locality.{has_value, value_of, values_of}
use Rattle.std.specs.Prelude.{IfNone}
use Rattle.fy_locality.specs.declared.ProcId.{ProcId}
use Rattle.fy_locality.specs.Members.{IsLeast}
use Rattle.fy_policy.specs.Sat.{group, satisfies}
use Rattle.fy_policy.specs.Tree.{Tree, one, across, IsWellFormed}
use Rattle.fy_policy.proofs.Counts.{any_found, found_any, count-none, count-without, number_of, fewer}
use Rattle.fy_policy.proofs.Tests.{ValuesDiffer, ValuesOccur, satisfies-none}

-- how many values have a group in s that passes
abbrev pub passing : List Locality → Key → Tree → (ℕ → Bool) → ℕ
passing processes key q s = length (filter (λ v. satisfies processes q (group processes key v s)) (values_of processes key))

pub has_none : (processes : List Locality) (key : Key) (v : List ℕ) (p : ℕ) → value_of processes key p ≡ None → has_value processes key v p ≡ false
has_none processes key v p e = ap (λ o. option_eq bytes_eq o (Some v)) e

pub has_one : (processes : List Locality) (key : Key) (v w : List ℕ) (p : ℕ) → bytes_eq v w ≡ false → (has_value processes key v p && has_value processes key w p) ≡ false
has_one processes key v w p apart = go (value_of processes key p)
  where
    go : (o : Option (List ℕ)) → (option_eq bytes_eq o (Some v) && option_eq bytes_eq o (Some w)) ≡ false
    go None = refl
    go (Some u) = at (bytes_eq u v) refl (bytes_eq u w) refl
      where
        at : (a : Bool) → bytes_eq u v ≡ a → (b : Bool) → bytes_eq u w ≡ b → (a && b) ≡ false
        at true e true f = let same : bytes_eq v w ≡ true = ap (λ x. bytes_eq x w) (sym ((bytes_eq-Decides u v).0 e)) ∙ f in let x : ⊥ = cc in absurd x
        at true e false f = refl
        at false e b f = refl

module _ (processes : List Locality) (key : Key) (q : Tree) where
  -- sets with the same groups have as many
  same_groups : (s t : ℕ → Bool) → ((v : List ℕ) (x : ℕ) → group processes key v s x ≡ group processes key v t x) → passing processes key q s ≡ passing processes key q t
  same_groups s t same = λ i. length (filter (λ v. satisfies processes q (λ x. same v x i)) (values_of processes key))

  -- to drop a process without the key
  pub passing-keyless : (rest : sets.FinSet nat_cmp) (p : ℕ) → value_of processes key p ≡ None → passing processes key q (sets.contains (sets.remove rest p)) ≡ passing processes key q (sets.contains rest)
  passing-keyless rest p none = same_groups _ _ (λ v x.
      ap (λ b. b && has_value processes key v x) (sets.contains-remove nat_cmp_total rest p x ∙ ap (λ b. not b && sets.contains rest x) (unsigned_tied x p))
      ∙ (elim (cases_eq x p) [
        | inl same ↦ let gone : has_value processes key v x ≡ false = has_none processes key v x (ap (value_of processes key) same ∙ none) in away _ _ _ gone
        | inr other ↦ keep x p _ _ other
      ]))
    where
      away : (a b c : Bool) → c ≡ false → ((a && b) && c) ≡ (b && c)
      away a b c e = grind arith

      keep : (x p : ℕ) (b c : Bool) → x ≢ p → ((not (eqb x p) && b) && c) ≡ (b && c)
      keep x p b c ne = grind (arith, nat_tests)

  module _ (rest members group' rest' : sets.FinSet nat_cmp) (p : ℕ) (v : List ℕ) (at : value_of processes key p ≡ Some v)
      (has : (x : ℕ) → sets.contains members x ≡ has_value processes key v x) (grouped : group' ≡ sets.intersection rest members) (left : rest' ≡ sets.difference rest group') where
    contains-group : (x : ℕ) → sets.contains group' x ≡ group processes key v (sets.contains rest) x
    contains-group x = ap (λ s. sets.contains s x) grouped ∙ sets.contains-intersection nat_cmp_total rest members x ∙ ap (λ b. sets.contains rest x && b) (has x)

    contains-rest : (x : ℕ) → sets.contains rest' x ≡ (sets.contains rest x && not (sets.contains rest x && has_value processes key v x))
    contains-rest x = ap (λ s. sets.contains s x) left ∙ sets.contains-difference nat_cmp_total rest group' x ∙ ap (λ b. sets.contains rest x && not b) (contains-group x)

    -- a value's group is looked at and taken out
    pub passing-group : ValuesDiffer → ValuesOccur → IsWellFormed q → passing processes key q (sets.contains rest) ≡ cond (satisfies processes q (sets.contains group')) 1 0 + passing processes key q (sets.contains rest')
    passing-group differ occur counted =
        count-without (λ w. satisfies processes q (group processes key w (sets.contains rest))) (λ w. satisfies processes q (group processes key w (sets.contains rest'))) v
        (λ w apart. λ i. satisfies processes q (λ x. others w apart x i))
        (satisfies-none processes q _ counted (λ x h. none x))
        (values_of processes key) (differ processes key) ((occur processes key v).1 (p, at))
        ∙ ap (λ b. cond b 1 0 + passing processes key q (sets.contains rest')) (λ i. satisfies processes q (λ x. sym (contains-group x) i))
      where
        kept : (a b c : Bool) → (b && c) ≡ false → (a && c) ≡ ((a && not (a && b)) && c)
        kept true true true e = absurd (let x : ⊥ = cc in x)
        kept true true false e = refl
        kept true false c e = refl
        kept false b c e = refl

        others : (w : List ℕ) → bytes_eq v w ≡ false → (x : ℕ) → group processes key w (sets.contains rest) x ≡ group processes key w (sets.contains rest') x
        others w apart x = kept (sets.contains rest x) (has_value processes key v x) (has_value processes key w x) (has_one processes key v w x apart) ∙ ap (λ b. b && has_value processes key w x) (sym (contains-rest x))

        empty : (a b : Bool) → ((a && not (a && b)) && b) ≡ false
        empty true true = refl
        empty true false = refl
        empty false b = refl

        none : (x : ℕ) → group processes key v (sets.contains rest') x ≡ false
        none x = ap (λ b. b && has_value processes key v x) (contains-rest x) ∙ empty (sets.contains rest x) (has_value processes key v x)

    -- it has the process, so fewer are left
    pub fewer-group : sets.contains rest p ≡ true → p < 1024 → number_of (sets.contains rest') 1024 < number_of (sets.contains rest) 1024
    fewer-group present small = fewer (sets.contains rest) (sets.contains rest') (λ x h. first _ _ (sym (contains-rest x) ∙ h)) 1024 p small present (contains-rest p ∙ gone (sets.contains rest p) (has_value processes key v p) (ap (λ o. option_eq bytes_eq o (Some v)) at ∙ nat_list_eq_equiv.refl v))
      where
        first : (a b : Bool) → (a && b) ≡ true → a ≡ true
        first true b e = refl
        first false b e = e

        gone : (a b : Bool) → b ≡ true → (a && not (a && b)) ≡ false
        gone a b e = grind arith

  -- at the end
  pub passing-none : (s : ℕ → Bool) → IsWellFormed q → ((x : ℕ) → s x ≡ false) → passing processes key q s ≡ 0
  passing-none s counted nobody = count-none _ (values_of processes key) (λ v. satisfies-none processes q _ counted (λ x h. ap (λ b. b && has_value processes key v x) (nobody x)))

  pub passing-empty : (rest : sets.FinSet nat_cmp) → IsWellFormed q → rest ≡ sets.empty → passing processes key q (sets.contains rest) ≡ 0
  passing-empty rest counted none = passing-none (sets.contains rest) counted (λ x. ap (λ s. sets.contains s x) none ∙ sets.contains-empty nat_cmp x)

-- one dropped
pub fewer-dropped : (rest : sets.FinSet nat_cmp) (p : ℕ) → sets.contains rest p ≡ true → p < 1024 → number_of (sets.contains (sets.remove rest p)) 1024 < number_of (sets.contains rest) 1024
fewer-dropped rest p present small = fewer (sets.contains rest) (sets.contains (sets.remove rest p)) (λ x h. second _ _ (sym (sets.contains-remove nat_cmp_total rest p x) ∙ h)) 1024 p small present (sets.contains-remove nat_cmp_total rest p p ∙ ap (λ b. not b && sets.contains rest p) (unsigned_tied p p) ∙ itself p _)
  where
    second : (a b : Bool) → (a && b) ≡ true → b ≡ true
    second true b e = e
    second false b e = absurd (let x : ⊥ = cc in x)

    itself : (p : ℕ) (b : Bool) → (not (eqb p p) && b) ≡ false
    itself p b = grind (arith, nat_tests)

-- ---- some process
pub one-least : (processes : List Locality) (s : sets.FinSet nat_cmp) (p : ℕ) → IsLeast s p → ltb p (length processes) ≡ satisfies processes one (sets.contains s)
unfolding satisfies
one-least processes s p least = go (ltb p (length processes)) refl (list_any (sets.contains s) (range_with_len 0 (length processes))) refl
  where
    small : ltb p (length processes) ≡ true → p < length processes
    small e = grind (arith, nat_tests)

    large : ltb p (length processes) ≡ false → length processes ≤ p
    large e = grind (arith, nat_tests)

    go : (a : Bool) → ltb p (length processes) ≡ a → (b : Bool) → list_any (sets.contains s) (range_with_len 0 (length processes)) ≡ b → a ≡ b
    go true e true f = refl
    go true e false f = let x : list_any (sets.contains s) (range_with_len 0 (length processes)) ≡ true = found_any (sets.contains s) 0 (length processes) p (omega arith) (let h : p < length processes = small e in omega arith) least.present in let y : ⊥ = cc in absurd y
    go false e true f =
        let found = any_found (sets.contains s) 0 (length processes) f in
        let below : found.0 < 0 + length processes = found.2 in
        let above : length processes ≤ p = large e in
        let absent : sets.contains s found.0 ≡ false = least.none_below found.0 (omega arith) in
        let present : sets.contains s found.0 ≡ true = found.3 in
        let y : ⊥ = cc in absurd y
    go false e false f = refl

pub one-empty : (processes : List Locality) (s : sets.FinSet nat_cmp) → s ≡ sets.empty → false ≡ satisfies processes one (sets.contains s)
one-empty processes s none = sym (satisfies-none processes one (sets.contains s) tt (λ p h. ap (λ t. sets.contains t p) none ∙ sets.contains-empty nat_cmp p))

-- ---- across a key, in the words of the loop
pub satisfies-across : (processes : List Locality) (n : ℕ) (key : Key) (q : Tree) (s : ℕ → Bool) → satisfies processes (across n key q) s ≡ leb n (passing processes key q s)
unfolding satisfies
satisfies-across processes n key q s = refl

pub one_more : (found all before after wanted : ℕ) (b : Bool) → found + before ≡ all → before ≡ cond b 1 0 + after → b ≡ true → found + 1 + after ≡ all
one_more found all before after wanted b sum split pass = let e : before ≡ 1 + after = split ∙ ap (λ c. cond c 1 0 + after) pass in omega arith

pub none_more : (found all before after : ℕ) (b : Bool) → found + before ≡ all → before ≡ cond b 1 0 + after → b ≡ false → found + after ≡ all
none_more found all before after b sum split fail = let e : before ≡ 0 + after = split ∙ ap (λ c. cond c 1 0 + after) fail in omega arith

pub enough : (wanted found after all : ℕ) → wanted ≤ found + 1 → found + 1 + after ≡ all → true ≡ leb wanted all
enough wanted found after all reached sum = let h : wanted ≤ all = omega arith in grind (arith, nat_tests)

pub too_few : (wanted found after all : ℕ) → found < wanted → found + after ≡ all → after ≡ 0 → false ≡ leb wanted all
too_few wanted found after all few sum none = let h : all < wanted = omega arith in grind (arith, nat_tests)

pub no_least : (o : Option ProcId) (s : sets.FinSet nat_cmp) → IfNone o (s ≡ sets.empty) → ((p : ProcId) → o ≡ Some p → ⊥) → s ≡ sets.empty
no_least None s none not = none
no_least (Some p) s none not = absurd (not p refl)
