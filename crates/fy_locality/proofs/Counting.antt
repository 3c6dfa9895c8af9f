-- how many members sixteen words have, and the least
use Rattle.std.proofs.Common.{◌≡◌, ◌≢◌, ℕ, ◌+◌, ◌*◌, ◌-◌, ◌/◌, ◌%◌, ◌^◌, ◌<◌, ◌≤◌, Bool, true, false, ◌&&◌, not, List, inl, inr, zero, suc, refl, sym, ap, ◌∙◌, arith, cond, eqb, ltb, get_or}
use Rattle.std.specs.Ordering.{nat_cmp}
use Rattle.std.specs.Prelude.{count_ones}
use lib.Count.{ones, ones_in}
use Rattle.std.specs.Int.{bit_at, w64, trailing_zeros}
use Rattle.std.specs.FinSet as sets
use Rattle.std.specs.Cmp.{nat_cmp_total}
use Rattle.std.proofs.lemmas.Nat.Bits.{bit_at-lt, bit_at-trailing_zeros, bit_at-zero}
use Rattle.std.proofs.lemmas.Nat.{ones_cat, mod-pow-add, mod_below}
use Rattle.std.proofs.Math.Pow.{pow_pos}
use Rattle.std.proofs.lemmas.Bool.{cases_lt, cases_eq}
use Rattle.std.proofs.lemmas.Bool.Decides.{nat_tests}
use Rattle.fy_locality.specs.Members.{has_bit, members, members_below, AreWords, IsLeast, StartsAt}
use Rattle.fy_locality.specs.MembersInverse.{contains-members, contains-members_below, contains-members_at}
use Rattle.fy_locality.proofs.Sizes.{members_are}

no_ones : count_ones 0 ≡ 0
unfolding ones ones_in
no_ones = refl

one_bit_count : (b : ℕ) → b < 2 → count_ones b ≡ cond (eqb b 1) 1 0
unfolding ones ones_in
one_bit_count zero h = refl
one_bit_count (suc zero) h = refl
one_bit_count (suc (suc b)) h = absurd (omega arith)

-- one bit more of a number
ones-one_more : (w i : ℕ) → count_ones (w % 2 ^ (i + 1)) ≡ cond (eqb (bit_at w i) 1) 1 0 + count_ones (w % 2 ^ i)
ones-one_more w i =
    let low : w % 2 ^ i < 2 ^ i = mod_below w (2 ^ i) (pow_pos i) in
    ap (λ j. count_ones (w % 2 ^ j)) (let e : i + 1 ≡ 1 + i = omega arith in e)
    ∙ ap count_ones (mod-pow-add w 1 i)
    ∙ ones_cat i (w / 2 ^ i % 2 ^ 1) (w % 2 ^ i) low
    ∙ ap (λ n. n + count_ones (w % 2 ^ i)) (one_bit_count (bit_at w i) (bit_at-lt w i))

no_member_at : (n : ℕ) (b : Bool) → (ltb n n && b) ≡ false
no_member_at n b = grind (arith, nat_tests)

len-one_more : (ws : List ℕ) (n : ℕ) → sets.len (members_below ws (n + 1)) ≡ cond (has_bit ws n) 1 0 + sets.len (members_below ws n)
unfolding members_below
len-one_more ws n = ap (λ j. sets.len (members_below ws j)) (let e : n + 1 ≡ suc n = omega arith in e) ∙ go (has_bit ws n)
  where
    absent : sets.contains (members_below ws n) n ≡ false
    absent = contains-members_below ws n n ∙ no_member_at n (has_bit ws n)

    go : (b : Bool) → sets.len (cond b (sets.insert (members_below ws n) n) (members_below ws n)) ≡ cond b 1 0 + sets.len (members_below ws n)
    go true = sets.len-insert nat_cmp_total (members_below ws n) n ∙ ap (λ b. cond b (sets.len (members_below ws n)) (sets.len (members_below ws n) + 1)) absent ∙ (let e : sets.len (members_below ws n) + 1 ≡ 1 + sets.len (members_below ws n) = omega arith in e)
    go false = let e : sets.len (members_below ws n) ≡ 0 + sets.len (members_below ws n) = omega arith in e

-- the members among the first i bits of word k
len-within_word : (ws : List ℕ) (k i : ℕ) → i ≤ 64 → sets.len (members_below ws (k * 64 + i)) ≡ count_ones (get_or ws k 0 % 2 ^ i) + sets.len (members_below ws (k * 64))
len-within_word ws k zero h =
    ap (λ j. sets.len (members_below ws j)) (let e : k * 64 + 0 ≡ k * 64 = omega arith in e)
    ∙ (let z : get_or ws k 0 % 2 ^ 0 ≡ 0 = omega arith in let e : sets.len (members_below ws (k * 64)) ≡ 0 + sets.len (members_below ws (k * 64)) = omega arith in e ∙ ap (λ n. n + sets.len (members_below ws (k * 64))) (sym no_ones) ∙ ap (λ n. count_ones n + sets.len (members_below ws (k * 64))) (sym z))
len-within_word ws k (suc i) h =
    let at : (k * 64 + i) / 64 ≡ k = omega arith in
    let bit : (k * 64 + i) % 64 ≡ i = omega arith in
    let here : has_bit ws (k * 64 + i) ≡ eqb (bit_at (get_or ws k 0) i) 1 = ap (λ j. eqb (bit_at (get_or ws j 0) ((k * 64 + i) % 64)) 1) at ∙ ap (λ j. eqb (bit_at (get_or ws k 0) j) 1) bit in
    let before : sets.len (members_below ws (k * 64 + i)) ≡ count_ones (get_or ws k 0 % 2 ^ i) + sets.len (members_below ws (k * 64)) = len-within_word ws k i (omega arith) in
    let more : sets.len (members_below ws (k * 64 + i + 1)) ≡ cond (eqb (bit_at (get_or ws k 0) i) 1) 1 0 + sets.len (members_below ws (k * 64 + i)) = len-one_more ws (k * 64 + i) ∙ ap (λ b. cond b 1 0 + sets.len (members_below ws (k * 64 + i))) here in
    let counted : count_ones (get_or ws k 0 % 2 ^ (i + 1)) ≡ cond (eqb (bit_at (get_or ws k 0) i) 1) 1 0 + count_ones (get_or ws k 0 % 2 ^ i) = ones-one_more (get_or ws k 0) i in
    ap (λ j. sets.len (members_below ws j)) (let e : k * 64 + suc i ≡ k * 64 + i + 1 = omega arith in e)
    ∙ more
    ∙ joined (cond (eqb (bit_at (get_or ws k 0) i) 1) 1 0) _ _ _ _ before counted
    ∙ ap (λ j. count_ones (get_or ws k 0 % 2 ^ j) + sets.len (members_below ws (k * 64))) (let e : i + 1 ≡ suc i = omega arith in e)
  where
    joined : (b n low rest all : ℕ) → n ≡ low + rest → all ≡ b + low → b + n ≡ all + rest
    joined b n low rest all e f = omega arith

-- the members below the next word
pub len-word : (ws : List ℕ) (k : ℕ) → AreWords ws → sets.len (members_below ws ((k + 1) * 64)) ≡ sets.len (members_below ws (k * 64)) + count_ones (get_or ws k 0)
len-word ws k are =
    let fit : get_or ws k 0 < 2 ^ 64 = are.fit k in
    ap (λ j. sets.len (members_below ws j)) (let e : (k + 1) * 64 ≡ k * 64 + 64 = omega arith in e)
    ∙ len-within_word ws k 64 (omega arith)
    ∙ ap (λ n. count_ones n + sets.len (members_below ws (k * 64))) (let e : get_or ws k 0 % 2 ^ 64 ≡ get_or ws k 0 = omega arith in e)
    ∙ swap (count_ones (get_or ws k 0)) (sets.len (members_below ws (k * 64)))
  where
    swap : (a b : ℕ) → a + b ≡ b + a
    swap a b = omega arith

pub len-none : (ws : List ℕ) → sets.len (members_below ws 0) ≡ 0
unfolding members_below
len-none ws = sets.len-empty nat_cmp

pub len-all : (ws : List ℕ) → sets.len (members_below ws (16 * 64)) ≡ sets.len (members ws)
len-all ws = ap sets.len (sym (members_are ws))

-- no bit of a word that is 0
bit_of_zero : (w i : ℕ) → w ≡ 0 → eqb (bit_at w i) 1 ≡ false
bit_of_zero w i e = ap (λ n. eqb (bit_at n i) 1) e ∙ ap (λ n. eqb n 1) (bit_at-zero i)

off : (q : ℕ) (b : Bool) → b ≡ false → (ltb q 1024 && b) ≡ false
off q b e = grind (arith, nat_tests)

-- where nothing below word `first` is a member and the words from there to word n are 0, nothing
-- below word n is
pub none_below_zeros : (ws : List ℕ) (first n : ℕ) → StartsAt first (members ws) → ((k : ℕ) → first ≤ k → k < n → get_or ws k 0 ≡ 0) → StartsAt n (members ws)
none_below_zeros ws first n starts zeros q h = elim (cases_lt q (first * 64)) [
  | inl early ↦ starts q early
  | inr late ↦ contains-members ws q ∙ off q _ (bit_of_zero _ (q % 64) (zeros (q / 64) (omega arith) (omega arith)))
]

pub nobody : (ws : List ℕ) → StartsAt 16 (members ws) → members ws ≡ sets.empty
nobody ws none = sets.same_set nat_cmp_total sets.nat_cmp-IsAntisymmetric _ _ (λ q. (elim (cases_lt q 1024) [
  | inl h ↦ none q (omega arith)
  | inr h ↦ contains-members ws q ∙ past q _ h
]) ∙ sym (sets.contains-empty nat_cmp q))
  where
    past : (q : ℕ) (b : Bool) → 1024 ≤ q → (ltb q 1024 && b) ≡ false
    past q b h = grind (arith, nat_tests)

-- the lowest bit of the first word that isn't 0
pub least-first_word : (ws : List ℕ) (n : ℕ) → AreWords ws → n < 16 → StartsAt n (members ws) → get_or ws n 0 ≢ 0 → (trailing_zeros w64 (get_or ws n 0) < 64) × IsLeast (members ws) (n * 64 + trailing_zeros w64 (get_or ws n 0))
least-first_word ws n are below none some =
    let w = get_or ws n 0 in
    let positive : 0 < get_or ws n 0 = omega arith in
    let low = bit_at-trailing_zeros w64 w positive (are.fit n) in (
      low.0,
      record {
        present = contains-members_at ws n _ below low.0 ∙ ap (λ b. eqb b 1) low.1;
        none_below = λ q h. elim (cases_lt q (n * 64)) [
          | inl early ↦ none q early
          | inr here ↦
              let i : q ≡ n * 64 + (q - n * 64) = omega arith in
              let within : q - n * 64 < trailing_zeros w64 w = omega arith in
              ap (sets.contains (members ws)) i
              ∙ contains-members_at ws n (q - n * 64) below (let lt : trailing_zeros w64 w < 64 = low.0 in omega arith)
              ∙ ap (λ b. eqb b 1) (low.2 (q - n * 64) within)
        ];
      },
    )

-- a set with a least member isn't empty
pub IsLeast-some : (s : sets.FinSet nat_cmp) (p : ℕ) → IsLeast s p → s ≡ sets.empty → ⊥
IsLeast-some s p least none =
    let absent : sets.contains s p ≡ false = ap (λ t. sets.contains t p) none ∙ sets.contains-empty nat_cmp p in
    let present : sets.contains s p ≡ true = least.present in
    let x : ⊥ = cc in
    x

-- to take the least member out leaves fewer
pub len-without_least : (s : sets.FinSet nat_cmp) (p : ℕ) → IsLeast s p → sets.len (sets.remove s p) < sets.len s
len-without_least s p least =
    let one : sets.len (sets.remove s p) ≡ sets.len s - 1 = sets.len-remove nat_cmp_total s p ∙ ap (λ b. cond b (sets.len s - 1) (sets.len s)) least.present in
    elim (cases_eq (sets.len s) 0) [
      | inl none ↦ absurd (IsLeast-some s p least (sets.empty_of_len s none))
      | inr some ↦ omega arith
    ]

-- and nothing below the word in which it was
pub starts-without_least : (s : sets.FinSet nat_cmp) (p : ℕ) → IsLeast s p → StartsAt (p / 64) (sets.remove s p)
starts-without_least s p least q h = sets.contains-remove nat_cmp_total s p q ∙ neither _ _ (least.none_below q (omega arith))
  where
    neither : (a b : Bool) → b ≡ false → (not a && b) ≡ false
    neither a b e = grind (arith, nat_tests)
