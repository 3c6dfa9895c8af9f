-- what the loop over the values of a key knows of those who satisfy the policy
use Rattle.std.proofs.Common.{inl, inr, ◌≡◌, ◌≢◌, ℕ, ◌+◌, ◌*◌, ◌-◌, ◌<◌, ◌≤◌, Bool, true, false, cond, ◌&&◌, not, List, [], ◌∷◌, ◌++◌, length, Some, None, refl, sym, ap, subst, ◌∙◌, true≢false, arith}
use Rattle.std.specs.Ordering.{nat_cmp}
use Rattle.std.specs.FinSet as sets
use Rattle.std.specs.Cmp.{nat_cmp_total}
use Rattle.std.specs.Prelude.{sum_by}
use Rattle.std.proofs.lemmas.Bool.{cases_eq}
use Rattle.fy_locality.specs.declared.locality.Locality.{Locality}
use Rattle.fy_locality.specs.declared.key.Key.{Key}
use Rattle.fy_locality.specs.Locality.{has_value, value_of}
use Rattle.fy_policy.specs.Counted.{number_of, passing}
use Rattle.fy_policy.specs.Sat.{Sat, group, outside, satisfies}
use Rattle.fy_policy.specs.Laws.{KeylessPassNothing, NobodyPasses, TestIsSatisfaction, ValuesPassApart}
use Rattle.fy_policy.specs.Tree.{Tree, one, across, IsWellFormed}
use Rattle.fy_policy.proofs.Walk.{satisfies-across}
use Rattle.fy_tolerance.specs.Costs.{IsWithin, NeedsAtLeast, IsLeastOf}
use Rattle.fy_tolerance.specs.declared.parts.Part.{Part}
use Rattle.fy_tolerance.proofs.Costing.{number-more, number-split, number-some, short-push, least-taken}
use Rattle.fy_tolerance.proofs.Values.{at_least}

module _ (processes : List Locality) (key : Key) (q : Tree) (free : ℕ → Bool) where
  -- whom a set costs
  abbrev pub cost : (ℕ → Bool) → ℕ
  cost s = number_of (λ p. s p && not (free p)) (length processes)

  -- each value that the loop has passed and whose group satisfies the policy costs its count; the
  -- others are in the rest
  abbrev pub NeedSoFar : (rest : ℕ → Bool) → List Part → (s : ℕ → Bool) → ℕ → Type 0
  NeedSoFar rest counts s level =
      passing processes key q s * level + cost (λ p. s p && rest p)
      ≤ cost s + sum_by (λ part. level - part.least) counts + passing processes key q (λ p. s p && rest p) * level

  both_are : (a b : Bool) → (a ≡ true → b ≡ true) → (a && b) ≡ a
  both_are true b h = h refl
  both_are false b h = refl

  pub fewest_to_satisfy-begins : (all s : ℕ → Bool) (level : ℕ) → IsWithin s all → NeedSoFar all [] s level
  fewest_to_satisfy-begins all s level within =
      let same : (p : ℕ) → (s p && all p) ≡ s p = λ p. both_are (s p) (all p) (within p) in
      let costs : cost (λ p. s p && all p) ≡ cost s = (λ i. cost (λ p. same p i)) in
      let pass : passing processes key q (λ p. s p && all p) * level ≡ passing processes key q s * level = (λ i. passing processes key q (λ p. same p i) * level) in
      ends _ _ _ _ costs pass
    where
      ends : (a b c d : ℕ) → a ≡ b → c ≡ d → d + a ≤ b + 0 + c
      ends a b c d e f = omega arith

  -- ---- a value's members are looked at and taken out
  module _ (splits : ValuesPassApart) (counted : IsWellFormed q) (rest members rest' : ℕ → Bool) (v : List ℕ) (p : ℕ) (at : value_of processes key p ≡ Some v)
      (found : (x : ℕ) → members x ≡ group processes key v rest x) (left : (x : ℕ) → rest' x ≡ outside processes key v rest x) where
    parts_cost0 : (t r h f : Bool) → cond ((t && r) && not f) 1 0 ≡ cond (((t && r) && h) && not f) 1 0 + cond ((t && (r && not h)) && not f) 1 0
    parts_cost0 true true true true = refl
    parts_cost0 true true true false = refl
    parts_cost0 true true false true = refl
    parts_cost0 true true false false = refl
    parts_cost0 true false h f = refl
    parts_cost0 false r h f = refl

    parts_cost : (t r h f r' : Bool) → r' ≡ (r && not h) → cond ((t && r) && not f) 1 0 ≡ cond (((t && r) && h) && not f) 1 0 + cond ((t && r') && not f) 1 0
    parts_cost t r h f r' e = parts_cost0 t r h f ∙ ap (λ b. cond (((t && r) && h) && not f) 1 0 + cond ((t && b) && not f) 1 0) (sym e)

    apart : (t r h r' : Bool) → r' ≡ (r && not h) → ((t && r) && not h) ≡ (t && r')
    apart true r h r' e = sym e
    apart false r h r' e = refl

    inside : (t r h m : Bool) → m ≡ (r && h) → ((t && r) && h) ≡ true → m ≡ true
    inside true r h m e f = e ∙ f
    inside false r h m e f = absurd (let x : ⊥ = cc in x)

    sums : (a c l cp cr σ x s k : ℕ) (b : Bool) → σ ≡ cond b 1 0 → (b ≡ true → k ≤ cp) → a + (cp + cr) ≤ c + s + (σ + x) * l → a + cr ≤ c + (s + (l - k)) + x * l
    sums a c l cp cr σ x s k true e take h = let low : k ≤ cp = take refl in let one : σ ≡ 1 = e in let h' : a + (cp + cr) ≤ c + s + (1 + x) * l = subst (λ z. a + (cp + cr) ≤ c + s + (z + x) * l) one h in omega arith
    sums a c l cp cr σ x s k false e take h = let one : σ ≡ 0 = e in let h' : a + (cp + cr) ≤ c + s + (0 + x) * l = subst (λ z. a + (cp + cr) ≤ c + s + (z + x) * l) one h in omega arith

    pub fewest_to_satisfy-goes-on : (counts : List Part) (count : Part) → NeedsAtLeast processes q members free count.least → (s : ℕ → Bool) (level : ℕ) → NeedSoFar rest counts s level → NeedSoFar rest' (counts ++ count ∷ []) s level
    fewest_to_satisfy-goes-on counts count needed s level so_far =
        let here : ℕ → Bool = λ x. s x && rest x in
        let split : passing processes key q here ≡ cond (satisfies processes q (group processes key v here)) 1 0 + passing processes key q (outside processes key v here) = splits processes key q v here counted (p, at) in
        let rest_is : passing processes key q (outside processes key v here) ≡ passing processes key q (λ x. s x && rest' x) = (λ i. passing processes key q (λ x. apart (s x) (rest x) (has_value processes key v x) (rest' x) (left x) i)) in
        let costs : cost here ≡ cost (group processes key v here) + cost (λ x. s x && rest' x) = number-split _ _ _ (length processes) (λ x. parts_cost (s x) (rest x) (has_value processes key v x) (free x) (rest' x) (left x)) in
        let taken : satisfies processes q (group processes key v here) ≡ true → count.least ≤ cost (group processes key v here) = (λ e. needed (group processes key v here) (λ x h. inside (s x) (rest x) (has_value processes key v x) (members x) (found x) h) e) in
        let pass : passing processes key q here ≡ cond (satisfies processes q (group processes key v here)) 1 0 + passing processes key q (λ x. s x && rest' x) = split ∙ ap (λ n. cond (satisfies processes q (group processes key v here)) 1 0 + n) rest_is in
        let before : passing processes key q s * level + (cost (group processes key v here) + cost (λ x. s x && rest' x)) ≤ cost s + sum_by (λ part. level - part.least) counts + (cond (satisfies processes q (group processes key v here)) 1 0 + passing processes key q (λ x. s x && rest' x)) * level =
        subst (λ n. passing processes key q s * level + n ≤ cost s + sum_by (λ part. level - part.least) counts + (cond (satisfies processes q (group processes key v here)) 1 0 + passing processes key q (λ x. s x && rest' x)) * level) costs
        (subst (λ n. passing processes key q s * level + cost here ≤ cost s + sum_by (λ part. level - part.least) counts + n * level) pass so_far) in
        subst (λ n. passing processes key q s * level + cost (λ x. s x && rest' x) ≤ cost s + n + passing processes key q (λ x. s x && rest' x) * level) (sym (short-push level count counts))
        (sums (passing processes key q s * level) (cost s) level (cost (group processes key v here)) (cost (λ x. s x && rest' x)) (cond (satisfies processes q (group processes key v here)) 1 0) (passing processes key q (λ x. s x && rest' x)) (sum_by (λ part. level - part.least) counts) count.least (satisfies processes q (group processes key v here)) refl taken before)

  -- ---- a process without the key is dropped
  pub fewest_to_satisfy-skips : KeylessPassNothing → (rest rest' : ℕ → Bool) (p : ℕ) → value_of processes key p ≡ None → ((x : ℕ) → x ≢ p → rest' x ≡ rest x) → rest' p ≡ false → (counts : List Part) (s : ℕ → Bool) (level : ℕ) → NeedSoFar rest counts s level → NeedSoFar rest' counts s level
  fewest_to_satisfy-skips nothing rest rest' p keyless same gone counts s level so_far =
      let pass : passing processes key q (λ x. s x && rest x) ≡ passing processes key q (λ x. s x && rest' x) = nothing processes key q p _ _ keyless (λ x other. ap (λ b. s x && b) (sym (same x other))) in
      let fewer : cost (λ x. s x && rest' x) ≤ cost (λ x. s x && rest x) = number-more _ _ (length processes) (λ x below h. kept x h) in
      let before : passing processes key q s * level + cost (λ x. s x && rest x) ≤ cost s + sum_by (λ part. level - part.least) counts + passing processes key q (λ x. s x && rest' x) * level =
      subst (λ n. passing processes key q s * level + cost (λ x. s x && rest x) ≤ cost s + sum_by (λ part. level - part.least) counts + n * level) pass so_far in
      ends _ _ _ _ fewer before
    where
      ends : (a b c d : ℕ) → a ≤ b → c + b ≤ d → c + a ≤ d
      ends a b c d e f = omega arith

      stays : (s r r' f : Bool) → r' ≡ r → ((s && r') && not f) ≡ true → ((s && r) && not f) ≡ true
      stays s r r' f e h = ap (λ b. (s && b) && not f) (sym e) ∙ h

      never : (s r' f : Bool) → r' ≡ false → ((s && r') && not f) ≡ true → ⊥
      never true r' f e h = let x : (r' && not f) ≡ true = h in let y : (false && not f) ≡ true = ap (λ b. b && not f) (sym e) ∙ x in let z : ⊥ = cc in z
      never false r' f e h = let z : ⊥ = cc in z

      kept : (x : ℕ) → ((s x && rest' x) && not (free x)) ≡ true → ((s x && rest x) && not (free x)) ≡ true
      kept x h = elim (cases_eq x p) [
        | inl here ↦ absurd (never (s x) (rest' x) (free x) (ap rest' here ∙ gone) h)
        | inr other ↦ stays (s x) (rest x) (rest' x) (free x) (same x other) h
      ]

  -- ---- nothing is left
  pub fewest_to_satisfy-ends : NobodyPasses → IsWellFormed q → (all rest : ℕ → Bool) → ((x : ℕ) → rest x ≡ false) → (counts : List Part) (wanted least : ℕ) → IsLeastOf counts wanted least
      → ((s : ℕ → Bool) (level : ℕ) → IsWithin s all → NeedSoFar rest counts s level) → NeedsAtLeast processes (across wanted key q) all free least
  fewest_to_satisfy-ends nobody counted all rest empty counts wanted least is so_far = λ s within sat.
      let enough : wanted ≤ passing processes key q s = at_least _ _ (sym (satisfies-across processes wanted key q s) ∙ sat) in
      least-taken counts wanted least (passing processes key q s) (cost s) is enough (λ level.
      let zero_left : passing processes key q (λ x. s x && rest x) ≡ 0 = nobody processes key q _ counted (λ x. off (s x) (rest x) (empty x)) in
      let all_passed : passing processes key q s * level + cost (λ x. s x && rest x) ≤ cost s + sum_by (λ part. level - part.least) counts + 0 * level =
      subst (λ n. passing processes key q s * level + cost (λ x. s x && rest x) ≤ cost s + sum_by (λ part. level - part.least) counts + n * level) zero_left (so_far s level within) in
      ends _ _ _ _ level all_passed)
    where
      off : (a b : Bool) → b ≡ false → (a && b) ≡ false
      off true b e = e
      off false b e = refl

      ends : (a b c d l : ℕ) → a + b ≤ c + d + 0 * l → a ≤ c + d
      ends a b c d l h = omega arith

-- ---- one process
some_of : TestIsSatisfaction → (processes : List Locality) (s : ℕ → Bool) → satisfies processes one s ≡ true → (p : ℕ) × (p < length processes) × (s p ≡ true)
unfolding Sat
some_of tested processes s sat = (tested processes one s).0 sat

pub one-costs : TestIsSatisfaction → (processes : List Locality) (group free : sets.FinSet nat_cmp) (count : ℕ) → sets.intersection group free ≡ sets.empty → count ≤ 1 → NeedsAtLeast processes one (sets.contains group) (sets.contains free) count
one-costs tested processes group free count apart few = λ s within sat.
    let found = some_of tested processes s sat in
    let some : 1 ≤ number_of (λ p. s p && not (sets.contains free p)) (length processes) = number-some _ (length processes) found.0 found.1 (held (s found.0) (sets.contains free found.0) found.2 (other found.0 (within found.0 found.2))) in
    omega arith
  where
    held : (a b : Bool) → a ≡ true → b ≡ false → (a && not b) ≡ true
    held a b e f = ap (λ x. x && not b) e ∙ ap not f

    off : (a b : Bool) → a ≡ true → (a && b) ≡ false → b ≡ false
    off a b e f = ap (λ x. x && b) (sym e) ∙ f

    other : (p : ℕ) → sets.contains group p ≡ true → sets.contains free p ≡ false
    other p e = off _ _ e (sym (sets.contains-intersection nat_cmp_total group free p) ∙ ap (λ x. sets.contains x p) apart ∙ sets.contains-empty nat_cmp p)

pub one-lacks : TestIsSatisfaction → (processes : List Locality) (group free : sets.FinSet nat_cmp) (count : ℕ) → group ≡ sets.empty → NeedsAtLeast processes one (sets.contains group) (sets.contains free) count
one-lacks tested processes group free count empty = λ s within sat.
    let found = some_of tested processes s sat in
    let present : sets.contains group found.0 ≡ true = within found.0 found.2 in
    absurd (true≢false (sym present ∙ ap (λ x. sets.contains x found.0) empty ∙ sets.contains-empty nat_cmp found.0))
