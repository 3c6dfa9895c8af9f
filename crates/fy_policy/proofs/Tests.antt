-- the test of satisfaction: it is the relation, it goes by members alone, and the empty set fails
-- it
use Rattle.std.proofs.Common.{◌≡◌, ◌↔◌, ℕ, ◌+◌, ◌<◌, ◌≤◌, Bool, true, false, leb, ◌&&◌, List, length, filter, Some, refl, sym, ap, ◌∙◌, arith}
use Rattle.std.specs.List.{IsDistinct}
use Rattle.std.specs.Set.{is_member}
use Rattle.std.specs.Str.{bytes_eq}
use Rattle.std.proofs.lemmas.Bool.Decides.{nat_tests}
use Rattle.fy_locality.specs.declared.locality.Locality.{Locality}
use Rattle.fy_locality.specs.declared.key.Key.{Key}
use Rattle.fy_locality.specs.Locality.{has_value, value_of, values_of}
use Rattle.fy_policy.specs.Sat.{Sat, SatAll, IsValueOf, group, satisfies, all_satisfy}
use Rattle.fy_policy.specs.Tree.{Tree, one, across, every, Parts, none, part, IsWellFormed, AreWellFormed, HasPart}
use Rattle.fy_policy.proofs.Counts.{any_found, found_any, count-none, IsDistinct-filter, each_passes, few_pass, weaker}

-- what the crate below says of the values of a key
abbrev pub ValuesDiffer : Type 0
ValuesDiffer = (processes : List Locality) (key : Key) → IsDistinct bytes_eq (values_of processes key)

abbrev pub ValuesOccur : Type 0
ValuesOccur = (processes : List Locality) (key : Key) (v : List ℕ) → (is_member bytes_eq (values_of processes key) v ≡ true) ↔ ((p : ℕ) × (value_of processes key p ≡ Some v))

le_of_test : (n m : ℕ) → leb n m ≡ true → n ≤ m
le_of_test n m e = grind (arith, nat_tests)

test_of_le : (n m : ℕ) → n ≤ m → leb n m ≡ true
test_of_le n m e = grind (arith, nat_tests)

both : (a b : Bool) → (a && b) ≡ true → (a ≡ true) × (b ≡ true)
both true true e = (refl, refl)
both true false e = absurd (let x : ⊥ = cc in x)
both false b e = absurd (let x : ⊥ = cc in x)

join : (a b : Bool) → a ≡ true → b ≡ true → (a && b) ≡ true
join a b e f = ap (λ x. x && b) e ∙ f

module _ (differ : ValuesDiffer) (occur : ValuesOccur) where
  mutual
    unfolding Sat satisfies

    pub Sat-from : (processes : List Locality) (q : Tree) (s : ℕ → Bool) → satisfies processes q s ≡ true → Sat processes q s
    Sat-from processes one s e = let found = any_found s 0 (length processes) e in (found.0, (let h : found.0 < 0 + length processes = found.2 in omega arith), found.3)
    Sat-from processes (across n key q) s e = record {
      names = filter (λ v. satisfies processes q (group processes key v s)) (values_of processes key);
      many = le_of_test _ _ e;
      different = IsDistinct-filter _ _ (differ processes key);
      each = each_passes _ _ _ (λ v m h. let pair : IsValueOf processes key v × Sat processes q (group processes key v s) = ((occur processes key v).0 m, Sat-from processes q (group processes key v s) h) in pair);
    }
    Sat-from processes (every qs) s e = SatAll-from processes qs s e

    SatAll-from : (processes : List Locality) (qs : Parts) (s : ℕ → Bool) → all_satisfy processes qs s ≡ true → SatAll processes qs s
    SatAll-from processes none s e = tt
    SatAll-from processes (part q qs) s e = let parts = both _ _ e in (Sat-from processes q s parts.0, SatAll-from processes qs s parts.1)

  mutual
    unfolding Sat satisfies

    pub from-Sat : (processes : List Locality) (q : Tree) (s : ℕ → Bool) → Sat processes q s → satisfies processes q s ≡ true
    from-Sat processes one s h = found_any s 0 (length processes) h.0 (omega arith) (let b : h.0 < length processes = h.1 in omega arith) h.2
    from-Sat processes (across n key q) s h =
        let few : length h.names ≤ length (filter (λ v. satisfies processes q (group processes key v s)) (values_of processes key)) =
        few_pass _ _ h.names h.different (weaker _ _ (λ v e. let pair : (is_member bytes_eq (values_of processes key) v ≡ true) × (satisfies processes q (group processes key v s) ≡ true) = ((occur processes key v).1 e.0, from-Sat processes q (group processes key v s) e.1) in pair) h.names h.each) in
        let many : n ≤ length h.names = h.many in
        test_of_le _ _ (omega arith)
    from-Sat processes (every qs) s h = from-SatAll processes qs s h

    from-SatAll : (processes : List Locality) (qs : Parts) (s : ℕ → Bool) → SatAll processes qs s → all_satisfy processes qs s ≡ true
    from-SatAll processes none s h = refl
    from-SatAll processes (part q qs) s h = join _ _ (from-Sat processes q s h.0) (from-SatAll processes qs s h.1)

-- a set without processes fails
fails_of : (b : Bool) → (b ≡ true → ⊥) → b ≡ false
fails_of true h = absurd (h refl)
fails_of false h = refl

none_left : (n m : ℕ) → 1 ≤ n → m ≡ 0 → leb n m ≡ false
none_left n m h e = grind (arith, nat_tests)

abbrev pub IsEmptyIn : List Locality → (ℕ → Bool) → Type 0
IsEmptyIn processes s = (p : ℕ) → p < length processes → s p ≡ false

empty_group : (processes : List Locality) (key : Key) (v : List ℕ) (s : ℕ → Bool) → IsEmptyIn processes s → IsEmptyIn processes (group processes key v s)
empty_group processes key v s empty p h = ap (λ b. b && has_value processes key v p) (empty p h)

mutual
  unfolding satisfies

  pub satisfies-none : (processes : List Locality) (q : Tree) (s : ℕ → Bool) → IsWellFormed q → IsEmptyIn processes s → satisfies processes q s ≡ false
  satisfies-none processes one s counted empty = fails_of _ (λ e.
      let found = any_found s 0 (length processes) e in
      let absent : s found.0 ≡ false = empty found.0 (let h : found.0 < 0 + length processes = found.2 in omega arith) in
      let present : s found.0 ≡ true = found.3 in
      let x : ⊥ = cc in x)
  satisfies-none processes (across n key q) s counted empty =
      none_left _ _ counted.0 (count-none _ (values_of processes key) (λ v. satisfies-none processes q (group processes key v s) counted.2 (empty_group processes key v s empty)))
  satisfies-none processes (every qs) s counted empty = all_satisfy-none processes qs s counted.0 counted.1 empty

  all_satisfy-none : (processes : List Locality) (qs : Parts) (s : ℕ → Bool) → HasPart qs → AreWellFormed qs → IsEmptyIn processes s → all_satisfy processes qs s ≡ false
  all_satisfy-none processes none s has counted empty = absurd has
  all_satisfy-none processes (part q qs) s has counted empty = ap (λ b. b && all_satisfy processes qs s) (satisfies-none processes q s counted.0 empty)

-- an answer that is the test, as the relation
pub as_relation : (processes : List Locality) (q : Tree) (s : ℕ → Bool) (answer : Bool) → (satisfies processes q s ≡ true) ↔ Sat processes q s → answer ≡ satisfies processes q s → (answer ≡ true) ↔ Sat processes q s
as_relation processes q s answer law is = (λ e. law.0 (sym is ∙ e), λ h. is ∙ law.1 h)
