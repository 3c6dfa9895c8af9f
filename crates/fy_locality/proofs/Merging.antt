-- sixteen words merged pair by pair: the set that they stand for
use Rattle.std.proofs.Common.{◌≡◌, ℕ, ◌+◌, ◌-◌, ◌/◌, ◌%◌, ◌^◌, ◌<◌, ◌≤◌, Bool, false, ◌&&◌, ◌||◌, not, min, max, List, length, inl, inr, refl, sym, ap, ◌∙◌, arith, eqb, ltb, get_or}
use Rattle.std.specs.Prelude.{bit_and, bit_or}
use Rattle.std.specs.Int.{bit_at, w64}
use Rattle.std.specs.FinSet as sets
use Rattle.std.specs.Cmp.{nat_cmp_total}
use Rattle.std.proofs.Math.ListN.{set as put_at}
use Rattle.std.proofs.lemmas.Nat.Bits.{bit_at_and, bit_at_or, bit_at_not, bit_at-lt}
use Rattle.std.proofs.lemmas.List.{length-set, get_or-set_same, get_or-set_other}
use Rattle.std.proofs.lemmas.Bool.{cases_lt, cases_eq}
use Rattle.std.proofs.lemmas.Bool.Decides.{nat_tests}
use Rattle.std.proofs.lemmas.Nat.{or_lt, and_le_l}
use Rattle.fy_locality.specs.Members.{has_bit, members, AreWords}
use Rattle.fy_locality.specs.MembersInverse.{contains-members}

-- the first n words are merged, and the others are still those of ws
pub record IsMerged (op : ℕ → ℕ → ℕ) (ws vs : List ℕ) (n : ℕ) (us : List ℕ) : Type 0 where
  pub count : length us ≡ 16
  pub merged : (k : ℕ) → k < n → get_or us k 0 ≡ op (get_or ws k 0) (get_or vs k 0)
  pub later : (k : ℕ) → n ≤ k → get_or us k 0 ≡ get_or ws k 0

pub merged_none : (op : ℕ → ℕ → ℕ) (ws vs : List ℕ) → length ws ≡ 16 → IsMerged op ws vs 0 ws
merged_none op ws vs n = record { count = n; merged = λ k h. absurd (omega arith); later = λ k h. refl }

pub merged_one : (op : ℕ → ℕ → ℕ) (ws vs : List ℕ) (n : ℕ) (us : List ℕ) (w : ℕ) → n < 16 → IsMerged op ws vs n us → w ≡ op (get_or us n 0) (get_or vs n 0) → IsMerged op ws vs (n + 1) (put_at us n w)
merged_one op ws vs n us w h are is = record {
  count = length-set us n w ∙ are.count;
  merged = λ k below. elim (cases_eq k n) [
    | inl e ↦ ap (λ j. get_or (put_at us n w) j 0) e ∙ get_or-set_same us n w 0 (omega (arith, are.count)) ∙ is ∙ ap (λ v. op v (get_or vs n 0)) (are.later n (omega arith)) ∙ ap (λ j. op (get_or ws j 0) (get_or vs j 0)) (sym e)
    | inr ne ↦ get_or-set_other us n k w 0 ne ∙ are.merged k (omega arith)
  ];
  later = λ k above. get_or-set_other us n k w 0 (λ e. let x : ⊥ = omega arith in x) ∙ are.later k (omega arith);
}

pub merged_all : (op : ℕ → ℕ → ℕ) (ws vs : List ℕ) (n : ℕ) (us : List ℕ) → 16 ≤ n → n ≤ 16 → IsMerged op ws vs n us → IsMerged op ws vs 16 us
merged_all op ws vs n us low high are = record { count = are.count; merged = λ k h. are.merged k (omega arith); later = λ k h. are.later k (omega arith) }

abbrev pub bit_and_not : ℕ → ℕ → ℕ
bit_and_not a b = bit_and a (2 ^ 64 - 1 - b)

-- what the merged words mean, bit by bit
record Means (op : ℕ → ℕ → ℕ) (f : Bool → Bool → Bool) : Type 0 where
  fits : (a b : ℕ) → a < 2 ^ 64 → b < 2 ^ 64 → op a b < 2 ^ 64
  bit : (a b i : ℕ) → a < 2 ^ 64 → b < 2 ^ 64 → i < 64 → eqb (bit_at (op a b) i) 1 ≡ f (eqb (bit_at a i) 1) (eqb (bit_at b i) 1)
  none : f false false ≡ false

module _ (op : ℕ → ℕ → ℕ) (f : Bool → Bool → Bool) (means : Means op f) (ws vs us : List ℕ) (are_ws : AreWords ws) (are_vs : AreWords vs) (are : IsMerged op ws vs 16 us) where
  AreWords-merged : AreWords us
  AreWords-merged = record {
    count = are.count;
    fit = λ k. elim (cases_lt k 16) [
      | inl h ↦ let e : get_or us k 0 ≡ op (get_or ws k 0) (get_or vs k 0) = are.merged k h in let b : op (get_or ws k 0) (get_or vs k 0) < 2 ^ 64 = means.fits _ _ (are_ws.fit k) (are_vs.fit k) in omega arith
      | inr h ↦ let e : get_or us k 0 ≡ get_or ws k 0 = are.later k h in let b : get_or ws k 0 < 2 ^ 64 = are_ws.fit k in omega arith
    ];
  }

  contains-merged : (q : ℕ) → sets.contains (members us) q ≡ f (sets.contains (members ws) q) (sets.contains (members vs) q)
  contains-merged q = elim (cases_lt q 1024) [
    | inl small ↦
        contains-members us q ∙ here q (has_bit us q) small
        ∙ ap (λ w. eqb (bit_at w (q % 64)) 1) (are.merged (q / 64) (omega arith))
        ∙ means.bit _ _ (q % 64) (are_ws.fit (q / 64)) (are_vs.fit (q / 64)) (omega arith)
        ∙ ap (λ b. f b (has_bit vs q)) (sym (contains-members ws q ∙ here q (has_bit ws q) small))
        ∙ ap (λ b. f (sets.contains (members ws) q) b) (sym (contains-members vs q ∙ here q (has_bit vs q) small))
    | inr large ↦
        contains-members us q ∙ gone q (has_bit us q) large ∙ sym means.none
        ∙ ap (λ b. f b false) (sym (contains-members ws q ∙ gone q (has_bit ws q) large))
        ∙ ap (λ b. f (sets.contains (members ws) q) b) (sym (contains-members vs q ∙ gone q (has_bit vs q) large))
  ]
    where
      here : (q : ℕ) (b : Bool) → q < 1024 → (ltb q 1024 && b) ≡ b
      here q b h = grind (arith, nat_tests)

      gone : (q : ℕ) (b : Bool) → 1024 ≤ q → (ltb q 1024 && b) ≡ false
      gone q b h = grind (arith, nat_tests)

min_test : (a b : ℕ) → a < 2 → b < 2 → eqb (min a b) 1 ≡ (eqb a 1 && eqb b 1)
min_test a b h k = grind (arith, nat_tests)

max_test : (a b : ℕ) → a < 2 → b < 2 → eqb (max a b) 1 ≡ (eqb a 1 || eqb b 1)
max_test a b h k = grind (arith, nat_tests)

not_test : (b : ℕ) → b < 2 → eqb (1 - b) 1 ≡ not (eqb b 1)
not_test b h = grind (arith, nat_tests)

or_means : Means bit_or (λ a b. a || b)
or_means = record {
  fits = λ a b. or_lt 64 a b;
  bit = λ a b i x y h. ap (λ n. eqb n 1) (bit_at_or a b i) ∙ max_test _ _ (bit_at-lt a i) (bit_at-lt b i);
  none = refl;
}

and_means : Means bit_and (λ a b. a && b)
and_means = record {
  fits = λ a b x y. omega (arith, and_le_l a b);
  bit = λ a b i x y h. ap (λ n. eqb n 1) (bit_at_and a b i) ∙ min_test _ _ (bit_at-lt a i) (bit_at-lt b i);
  none = refl;
}

and_not_means : Means bit_and_not (λ a b. a && not b)
and_not_means = record {
  fits = λ a b x y. omega (arith, and_le_l a (2 ^ 64 - 1 - b));
  bit = λ a b i x y h.
      ap (λ n. eqb n 1) (bit_at_and a (2 ^ 64 - 1 - b) i)
      ∙ min_test _ _ (bit_at-lt a i) (bit_at-lt (2 ^ 64 - 1 - b) i)
      ∙ ap (λ t. eqb (bit_at a i) 1 && t) (ap (λ n. eqb n 1) (bit_at_not w64 b i y h) ∙ not_test _ (bit_at-lt b i));
  none = refl;
}

module _ (ws vs us : List ℕ) (are_ws : AreWords ws) (are_vs : AreWords vs) where
  pub AreWords-or : IsMerged bit_or ws vs 16 us → AreWords us
  AreWords-or are = AreWords-merged bit_or _ or_means ws vs us are_ws are_vs are

  pub members-or : IsMerged bit_or ws vs 16 us → members us ≡ sets.union (members ws) (members vs)
  members-or are = sets.same_set nat_cmp_total sets.nat_cmp-IsAntisymmetric _ _ (λ q. contains-merged bit_or _ or_means ws vs us are_ws are_vs are q ∙ sym (sets.contains-union nat_cmp_total (members ws) (members vs) q))

  pub AreWords-and : IsMerged bit_and ws vs 16 us → AreWords us
  AreWords-and are = AreWords-merged bit_and _ and_means ws vs us are_ws are_vs are

  pub members-and : IsMerged bit_and ws vs 16 us → members us ≡ sets.intersection (members ws) (members vs)
  members-and are = sets.same_set nat_cmp_total sets.nat_cmp-IsAntisymmetric _ _ (λ q. contains-merged bit_and _ and_means ws vs us are_ws are_vs are q ∙ sym (sets.contains-intersection nat_cmp_total (members ws) (members vs) q))

  pub AreWords-and_not : IsMerged bit_and_not ws vs 16 us → AreWords us
  AreWords-and_not are = AreWords-merged bit_and_not _ and_not_means ws vs us are_ws are_vs are

  pub members-and_not : IsMerged bit_and_not ws vs 16 us → members us ≡ sets.difference (members ws) (members vs)
  members-and_not are = sets.same_set nat_cmp_total sets.nat_cmp-IsAntisymmetric _ _ (λ q. contains-merged bit_and_not _ and_not_means ws vs us are_ws are_vs are q ∙ sym (sets.contains-difference nat_cmp_total (members ws) (members vs) q))
