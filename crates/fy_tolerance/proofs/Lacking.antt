-- what the loop over the values of a key knows of those who don't satisfy the policy
use Rattle.std.proofs.Common.{inl, inr, ◌≡◌, ◌≢◌, ℕ, ◌+◌, ◌*◌, ◌-◌, ◌<◌, ◌≤◌, Bool, true, false, cond, ◌&&◌, not, List, [], ◌∷◌, ◌++◌, length, Some, None, refl, sym, ap, subst, ◌∙◌, true≢false, arith}
use Rattle.std.specs.Prelude.{sum_by}
use Rattle.std.proofs.Common.{length-append}
use Rattle.std.proofs.lemmas.Bool.{cases_eq, cases_lt}
use Rattle.fy_locality.specs.declared.locality.Locality.{Locality}
use Rattle.fy_locality.specs.declared.key.Key.{Key}
use Rattle.fy_locality.specs.Locality.{has_value, value_of}
use Rattle.fy_policy.specs.Counted.{number_of, passing}
use Rattle.fy_policy.specs.Sat.{Sat, group, outside, satisfies}
use Rattle.fy_policy.specs.Laws.{KeylessPassNothing, NobodyPasses, TestIsSatisfaction, ValuesPassApart}
use Rattle.fy_policy.specs.Tree.{Tree, one, across, IsWellFormed}
use Rattle.fy_policy.proofs.Walk.{satisfies-across}
use Rattle.fy_tolerance.specs.Costs.{IsWithin, LacksAtLeast, IsLeastOf}
use Rattle.fy_tolerance.specs.declared.parts.Part.{Part}
use Rattle.fy_tolerance.proofs.Costing.{number-more, number-split, short-push, least-taken}
use Rattle.fy_tolerance.proofs.Values.{too_few}

module _ (processes : List Locality) (key : Key) (q : Tree) where
  -- how many of a group a set lacks
  abbrev pub lack : (ℕ → Bool) → (ℕ → Bool) → ℕ
  lack all s = number_of (λ p. all p && not (s p)) (length processes)

  -- each value that the loop has passed and whose group doesn't satisfy the policy lacks its count
  abbrev pub LackSoFar : (all rest : ℕ → Bool) → List Part → (s : ℕ → Bool) → ℕ → Type 0
  LackSoFar all rest counts s level =
      (length counts + passing processes key q (λ p. s p && rest p)) * level + lack rest s
      ≤ lack all s + sum_by (λ part. level - part.least) counts + passing processes key q s * level

  both_are : (a b : Bool) → (a ≡ true → b ≡ true) → (a && b) ≡ a
  both_are true b h = h refl
  both_are false b h = refl

  pub lack-begins : (all s : ℕ → Bool) (level : ℕ) → IsWithin s all → LackSoFar all all [] s level
  lack-begins all s level within =
      let same : (p : ℕ) → (s p && all p) ≡ s p = λ p. both_are (s p) (all p) (within p) in
      let pass : passing processes key q (λ p. s p && all p) ≡ passing processes key q s = (λ i. passing processes key q (λ p. same p i)) in
      ends _ _ _ level pass
    where
      ends : (a b c l : ℕ) → a ≡ b → (0 + a) * l + c ≤ c + 0 + b * l
      ends a b c l e = let f : (0 + b) * l + c ≤ c + 0 + b * l = omega arith in subst (λ n. (0 + n) * l + c ≤ c + 0 + b * l) (sym e) f

  module _ (splits : ValuesPassApart) (counted : IsWellFormed q) (rest members rest' : ℕ → Bool) (v : List ℕ) (p : ℕ) (at : value_of processes key p ≡ Some v)
      (found : (x : ℕ) → members x ≡ group processes key v rest x) (left : (x : ℕ) → rest' x ≡ outside processes key v rest x) where
    parts0 : (t r h : Bool) → cond (r && not t) 1 0 ≡ cond ((r && h) && not ((t && r) && h)) 1 0 + cond ((r && not h) && not t) 1 0
    parts0 true true true = refl
    parts0 true true false = refl
    parts0 true false h = refl
    parts0 false true true = refl
    parts0 false true false = refl
    parts0 false false h = refl

    parts : (t r h m r' : Bool) → m ≡ (r && h) → r' ≡ (r && not h) → cond (r && not t) 1 0 ≡ cond (m && not ((t && r) && h)) 1 0 + cond (r' && not t) 1 0
    parts t r h m r' e f = parts0 t r h ∙ ap (λ b. cond (b && not ((t && r) && h)) 1 0 + cond ((r && not h) && not t) 1 0) (sym e) ∙ ap (λ b. cond (m && not ((t && r) && h)) 1 0 + cond (b && not t) 1 0) (sym f)

    apart : (t r h r' : Bool) → r' ≡ (r && not h) → ((t && r) && not h) ≡ (t && r')
    apart true r h r' e = sym e
    apart false r h r' e = refl

    inside : (t r h m : Bool) → m ≡ (r && h) → ((t && r) && h) ≡ true → m ≡ true
    inside true r h m e f = e ∙ f
    inside false r h m e f = absurd (let x : ⊥ = cc in x)

    sums : (n g l cp cr σ x s k d : ℕ) (b : Bool) → σ ≡ cond b 1 0 → (b ≡ false → k ≤ cp) → (n + (σ + x)) * l + (cp + cr) ≤ g + s + d → ((n + 1) + x) * l + cr ≤ g + (s + (l - k)) + d
    sums n g l cp cr σ x s k d true e take h = let h' : (n + (1 + x)) * l + (cp + cr) ≤ g + s + d = subst (λ z. (n + (z + x)) * l + (cp + cr) ≤ g + s + d) e h in let r : (n + (1 + x)) * l ≡ ((n + 1) + x) * l = omega arith in omega arith
    sums n g l cp cr σ x s k d false e take h = let low : k ≤ cp = take refl in let h' : (n + (0 + x)) * l + (cp + cr) ≤ g + s + d = subst (λ z. (n + (z + x)) * l + (cp + cr) ≤ g + s + d) e h in let r : (n + (0 + x)) * l + l ≡ ((n + 1) + x) * l = omega arith in omega arith

    pub lack-goes-on : (counts : List Part) (count : Part) → LacksAtLeast processes q members count.least → (all s : ℕ → Bool) (level : ℕ) → LackSoFar all rest counts s level → LackSoFar all rest' (counts ++ count ∷ []) s level
    lack-goes-on counts count lacked all s level so_far =
        let here : ℕ → Bool = λ x. s x && rest x in
        let split : passing processes key q here ≡ cond (satisfies processes q (group processes key v here)) 1 0 + passing processes key q (outside processes key v here) = splits processes key q v here counted (p, at) in
        let rest_is : passing processes key q (outside processes key v here) ≡ passing processes key q (λ x. s x && rest' x) = (λ i. passing processes key q (λ x. apart (s x) (rest x) (has_value processes key v x) (rest' x) (left x) i)) in
        let lacks : lack rest s ≡ lack members (group processes key v here) + lack rest' s = number-split _ _ _ (length processes) (λ x. parts (s x) (rest x) (has_value processes key v x) (members x) (rest' x) (found x) (left x)) in
        let taken : satisfies processes q (group processes key v here) ≡ false → count.least ≤ lack members (group processes key v here) = (λ e. lacked (group processes key v here) (λ x h. inside (s x) (rest x) (has_value processes key v x) (members x) (found x) h) e) in
        let pass : passing processes key q here ≡ cond (satisfies processes q (group processes key v here)) 1 0 + passing processes key q (λ x. s x && rest' x) = split ∙ ap (λ n. cond (satisfies processes q (group processes key v here)) 1 0 + n) rest_is in
        let longer : length (counts ++ count ∷ []) ≡ length counts + 1 = length-append counts (count ∷ []) in
        let before : (length counts + (cond (satisfies processes q (group processes key v here)) 1 0 + passing processes key q (λ x. s x && rest' x))) * level + (lack members (group processes key v here) + lack rest' s) ≤ lack all s + sum_by (λ part. level - part.least) counts + passing processes key q s * level =
        subst (λ n. (length counts + (cond (satisfies processes q (group processes key v here)) 1 0 + passing processes key q (λ x. s x && rest' x))) * level + n ≤ lack all s + sum_by (λ part. level - part.least) counts + passing processes key q s * level) lacks
        (subst (λ n. (length counts + n) * level + lack rest s ≤ lack all s + sum_by (λ part. level - part.least) counts + passing processes key q s * level) pass so_far) in
        subst (λ n. (n + passing processes key q (λ x. s x && rest' x)) * level + lack rest' s ≤ lack all s + sum_by (λ part. level - part.least) (counts ++ count ∷ []) + passing processes key q s * level) (sym longer)
        (subst (λ n. ((length counts + 1) + passing processes key q (λ x. s x && rest' x)) * level + lack rest' s ≤ lack all s + n + passing processes key q s * level) (sym (short-push level count counts))
        (sums (length counts) (lack all s) level (lack members (group processes key v here)) (lack rest' s) (cond (satisfies processes q (group processes key v here)) 1 0) (passing processes key q (λ x. s x && rest' x)) (sum_by (λ part. level - part.least) counts) count.least (passing processes key q s * level) (satisfies processes q (group processes key v here)) refl taken before))

  pub lack-skips : KeylessPassNothing → (rest rest' : ℕ → Bool) (p : ℕ) → value_of processes key p ≡ None → ((x : ℕ) → x ≢ p → rest' x ≡ rest x) → rest' p ≡ false → (counts : List Part) (all s : ℕ → Bool) (level : ℕ) → LackSoFar all rest counts s level → LackSoFar all rest' counts s level
  lack-skips nothing rest rest' p keyless same gone counts all s level so_far =
      let pass : passing processes key q (λ x. s x && rest x) ≡ passing processes key q (λ x. s x && rest' x) = nothing processes key q p _ _ keyless (λ x other. ap (λ b. s x && b) (sym (same x other))) in
      let fewer : lack rest' s ≤ lack rest s = number-more _ _ (length processes) (λ x below h. kept x h) in
      let before : (length counts + passing processes key q (λ x. s x && rest' x)) * level + lack rest s ≤ lack all s + sum_by (λ part. level - part.least) counts + passing processes key q s * level =
      subst (λ n. (length counts + n) * level + lack rest s ≤ lack all s + sum_by (λ part. level - part.least) counts + passing processes key q s * level) pass so_far in
      ends _ _ _ _ fewer before
    where
      ends : (a b c d : ℕ) → a ≤ b → c + b ≤ d → c + a ≤ d
      ends a b c d e f = omega arith

      never : (r' t : Bool) → r' ≡ false → (r' && not t) ≡ true → ⊥
      never true t e h = true≢false e
      never false t e h = true≢false (sym h)

      kept : (x : ℕ) → (rest' x && not (s x)) ≡ true → (rest x && not (s x)) ≡ true
      kept x h = elim (cases_eq x p) [
        | inl here ↦ absurd (never (rest' x) (s x) (ap rest' here ∙ gone) h)
        | inr other ↦ ap (λ b. b && not (s x)) (sym (same x other)) ∙ h
      ]

  pub lack-ends : NobodyPasses → IsWellFormed q → (all rest : ℕ → Bool) → ((x : ℕ) → rest x ≡ false) → (counts : List Part) (wanted broken least : ℕ) → broken ≡ length counts - (wanted - 1) → IsLeastOf counts broken least
      → ((s : ℕ → Bool) (level : ℕ) → IsWithin s all → LackSoFar all rest counts s level) → LacksAtLeast processes (across wanted key q) all least
  lack-ends nobody counted all rest empty counts wanted broken least many is so_far = λ s within unsat.
      let few : passing processes key q s < wanted = too_few _ _ (sym (satisfies-across processes wanted key q s) ∙ unsat) in
      least-taken counts broken least (length counts - passing processes key q s) (lack all s) is (omega arith) (λ level.
      let zero_left : passing processes key q (λ x. s x && rest x) ≡ 0 = nobody processes key q _ counted (λ x. off (s x) (rest x) (empty x)) in
      let all_passed : (length counts + 0) * level + lack rest s ≤ lack all s + sum_by (λ part. level - part.least) counts + passing processes key q s * level =
      subst (λ n. (length counts + n) * level + lack rest s ≤ lack all s + sum_by (λ part. level - part.least) counts + passing processes key q s * level) zero_left (so_far s level within) in
      ends (length counts) (passing processes key q s) level (lack rest s) (lack all s + sum_by (λ part. level - part.least) counts) all_passed)
    where
      off : (a b : Bool) → b ≡ false → (a && b) ≡ false
      off true b e = e
      off false b e = refl

      ends : (n x l r d : ℕ) → (n + 0) * l + r ≤ d + x * l → (n - x) * l ≤ d
      ends n x l r d h = elim (cases_lt n x) [
        | inl below ↦ let z : n - x ≡ 0 = omega arith in subst (λ m. m * l ≤ d) (sym z) (omega arith)
        | inr above ↦ let z : n ≡ (n - x) + x = omega arith in let h' : (((n - x) + x) + 0) * l + r ≤ d + x * l = subst (λ m. (m + 0) * l + r ≤ d + x * l) z h in more (n - x) x l r d h'
      ]
        where
          more : (y x l r d : ℕ) → ((y + x) + 0) * l + r ≤ d + x * l → y * l ≤ d
          more y x l r d h = omega arith

-- ---- one process
one_of : TestIsSatisfaction → (processes : List Locality) (s : ℕ → Bool) (p : ℕ) → p < length processes → s p ≡ true → satisfies processes one s ≡ true
unfolding Sat
one_of tested processes s p below has = (tested processes one s).1 (p, below, has)

pub one-gone : TestIsSatisfaction → (processes : List Locality) (all : ℕ → Bool) (count : ℕ) → count ≡ number_of all (length processes) → LacksAtLeast processes one all count
one-gone tested processes all count is = λ s within unsat.
    let more : number_of all (length processes) ≤ number_of (λ p. all p && not (s p)) (length processes) = number-more _ _ (length processes) (λ p below h. kept s p below h unsat (s p) refl) in
    omega arith
  where
    kept : (s : ℕ → Bool) (p : ℕ) → p < length processes → all p ≡ true → satisfies processes one s ≡ false → (b : Bool) → s p ≡ b → (all p && not (s p)) ≡ true
    kept s p below h unsat true e = absurd (true≢false (sym (one_of tested processes s p below e) ∙ unsat))
    kept s p below h unsat false e = ap (λ b. b && not (s p)) h ∙ ap not e
