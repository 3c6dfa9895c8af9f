-- the least process of a group, found by going through those with its value
use Rattle.std.proofs.Common.{zero, suc, inl, inr, ◌≡◌, ◌≢◌, ℕ, ◌+◌, ◌<◌, ◌≤◌, Bool, true, false, true≢false, eqb, ◌&&◌, not, List, [], ◌∷◌, ◌++◌, length, slice_index_or, Some, refl, sym, ap, subst, ◌∙◌, arith}
use Rattle.std.specs.Prelude.{unwrap_or, is_some}
use Rattle.std.specs.Ordering.{nat_cmp}
use Rattle.std.specs.FinSet as sets
use Rattle.std.specs.Cmp.{nat_cmp_total, unsigned_tied}
use Rattle.std.specs.Option.{option_eq}
use Rattle.std.specs.Str.{bytes_eq}
use Rattle.std.proofs.lemmas.Bool.{cases_eq}
use Rattle.std.proofs.lemmas.Bool.Decides.{nat_tests}
use Rattle.std.proofs.lemmas.Cmp.{nat_list_eq_equiv}
use Rattle.fy_locality.specs.declared.locality.Locality.{Locality}
use Rattle.fy_locality.specs.declared.key.Key.{Key}
use Rattle.fy_locality.specs.Locality.{has_value, value_of, ArePeers}
use Rattle.fy_locality.specs.Members.{IsLeast}
use Rattle.fy_policy.specs.Counted.{IsRepresentative, group_at}

module _ (processes : List Locality) (key : Key) (at : ℕ → ℕ) (p : ℕ) where
  -- of those with the value of p, those looked at stand elsewhere
  pub record Looked (rest : sets.FinSet nat_cmp) : Type 0 where
    pub those : (v : List ℕ) → value_of processes key p ≡ Some v → (x : ℕ) → sets.contains rest x ≡ true → has_value processes key v x ≡ true
    pub elsewhere : (v : List ℕ) → value_of processes key p ≡ Some v → (x : ℕ) → has_value processes key v x ≡ true → sets.contains rest x ≡ false → eqb (at x) (at p) ≡ false

  same_value : (v w : List ℕ) → value_of processes key p ≡ Some v → value_of processes key p ≡ Some w → v ≡ w
  same_value v w e f = ap (λ o. unwrap_or o []) (sym e ∙ f)

  pub looked-first : (peers : sets.FinSet nat_cmp) → ArePeers processes key p peers → Looked peers
  looked-first peers are = record {
    those = λ v e x h. ap (λ w. has_value processes key w x) (same_value v are.value e are.had) ∙ sym (are.those x) ∙ h;
    elsewhere = λ v e x h miss. absurd (true≢false (sym h ∙ ap (λ w. has_value processes key w x) (same_value v are.value e are.had) ∙ sym (are.those x) ∙ miss));
  }

  pub looked-next : (rest : sets.FinSet nat_cmp) (q : ℕ) → Looked rest → (at q ≡ at p → ⊥) → Looked (sets.remove rest q)
  looked-next rest q looked apart = record {
    those = λ v e x h. looked.those v e x (second _ _ (sym (removed x) ∙ h));
    elsewhere = λ v e x h miss. elim (cases_eq x q) [
      | inl here ↦ differ (at x) (at p) (λ same. apart (ap at (sym here) ∙ same))
      | inr other ↦ looked.elsewhere v e x h (still x q _ other (sym (removed x) ∙ miss))
    ];
  }
    where
      removed : (x : ℕ) → sets.contains (sets.remove rest q) x ≡ (not (eqb x q) && sets.contains rest x)
      removed x = sets.contains-remove nat_cmp_total rest q x ∙ ap (λ b. not b && sets.contains rest x) (unsigned_tied x q)

      second : (a b : Bool) → (a && b) ≡ true → b ≡ true
      second true b e = e
      second false b e = absurd (let x : ⊥ = cc in x)

      differ : (a b : ℕ) → a ≢ b → eqb a b ≡ false
      differ a b ne = grind (arith, nat_tests)

      still : (x q : ℕ) (b : Bool) → x ≢ q → (not (eqb x q) && b) ≡ false → b ≡ false
      still x q b ne e = grind (arith, nat_tests)

  -- a process that was not looked at yet is one of the map
  pub looked-inside : ((key : Key) (v : List ℕ) (p : ℕ) → length processes ≤ p → has_value processes key v p ≡ false) → (peers rest : sets.FinSet nat_cmp) (q : ℕ) → ArePeers processes key p peers → Looked rest → IsLeast rest q → q < length processes
  looked-inside law peers rest q are looked least =
      below q (λ past. true≢false (sym (looked.those are.value are.had q least.present) ∙ law key are.value q past))
    where
      below : (q : ℕ) → (length processes ≤ q → ⊥) → q < length processes
      below q ne = omega arith

  pub found-representative : ((key : Key) (v : List ℕ) (p : ℕ) → length processes ≤ p → has_value processes key v p ≡ false) → (peers rest : sets.FinSet nat_cmp) (q : ℕ) → ArePeers processes key p peers → Looked rest → IsLeast rest q → at q ≡ at p → IsRepresentative processes key at p q
  found-representative law peers rest q are looked least same = record {
    fits = looked-inside law peers rest q are looked least;
    alone = λ missing. absurd (true≢false (ap is_some (sym are.had ∙ missing)));
    leads = λ v e. record {
      together = equal (at q) (at p) same;
      has = looked.those v e q least.present;
      none_below = λ x lower. neither _ _ (λ h. looked.elsewhere v e x h (least.none_below x lower));
    };
  }
    where
      equal : (a b : ℕ) → a ≡ b → eqb a b ≡ true
      equal a b e = grind (arith, nat_tests)

      neither : (a b : Bool) → (b ≡ true → a ≡ false) → (a && b) ≡ false
      neither true true f = absurd (true≢false (f refl))
      neither true false f = refl
      neither false b f = refl

  pub looked-all : (peers rest : sets.FinSet nat_cmp) → ArePeers processes key p peers → Looked rest → rest ≡ sets.empty → ⊥
  looked-all peers rest are looked none =
      true≢false (sym (itself (at p)) ∙ looked.elsewhere are.value are.had p (ap (λ o. option_eq bytes_eq o (Some are.value)) are.had ∙ nat_list_eq_equiv.refl are.value) (ap (λ s. sets.contains s p) none ∙ sets.contains-empty nat_cmp p))
    where
      itself : (a : ℕ) → eqb a a ≡ true
      itself a = grind (arith, nat_tests)

-- ---- a list with one element more
last_is : (xs : List ℕ) (x : ℕ) → slice_index_or (xs ++ x ∷ []) (length xs) 0 ≡ x
last_is [] x = refl
last_is (y ∷ ys) x = last_is ys x

before_last : (xs : List ℕ) (x q : ℕ) → q < length xs → slice_index_or (xs ++ x ∷ []) q 0 ≡ slice_index_or xs q 0
before_last [] x q h = absurd (omega arith)
before_last (y ∷ ys) x zero h = refl
before_last (y ∷ ys) x (suc q) h = before_last ys x q (omega arith)

pub representative-pushed : (processes : List Locality) (key : Key) (at : ℕ → ℕ) (xs ys : List ℕ) (x n : ℕ) → ys ≡ xs ++ x ∷ [] → length xs ≡ n → ((q : ℕ) → q < n → IsRepresentative processes key at q (group_at xs q)) → IsRepresentative processes key at n x → (q : ℕ) → q < n + 1 → IsRepresentative processes key at q (group_at ys q)
representative-pushed processes key at xs ys x n is wide before here q small = elim (cases_eq q n) [
  | inl same ↦ subst (λ k. IsRepresentative processes key at k (group_at ys k)) (sym same) (subst (IsRepresentative processes key at n) (sym (ap (λ zs. slice_index_or zs n 0) is ∙ ap (λ k. slice_index_or (xs ++ x ∷ []) k 0) (sym wide) ∙ last_is xs x)) here)
  | inr other ↦ let low : q < n = less q n small other in subst (IsRepresentative processes key at q) (sym (ap (λ zs. slice_index_or zs q 0) is ∙ before_last xs x q (subst (λ k. q < k) (sym wide) low))) (before q low)
]
  where
    less : (q n : ℕ) → q < n + 1 → q ≢ n → q < n
    less q n h ne = omega arith
