-- words whose lowest bits are 1: the set of all numbers below one
use Rattle.std.proofs.Common.{◌≡◌, ℕ, ◌-◌, ◌*◌, ◌/◌, ◌%◌, ◌^◌, ◌<◌, ◌≤◌, Bool, ◌&&◌, List, inl, inr, ap, ◌∙◌, arith, eqb, ltb, get_or}
use Rattle.std.specs.Int.{bit_at}
use Rattle.std.specs.FinSet as sets
use Rattle.std.proofs.lemmas.Nat.Bits.{bit_at_ones, bit_at_ones_above}
use Rattle.std.proofs.lemmas.Bool.{cases_lt}
use Rattle.std.proofs.lemmas.Bool.Decides.{nat_tests}
use Rattle.fy_locality.specs.Members.{has_bit, members, AreWords}
use Rattle.fy_locality.specs.MembersInverse.{contains-members}

-- the lowest bits of a word are 1, so many, or all
abbrev pub IsLow : ℕ → ℕ → Type 0
IsLow count w = (i : ℕ) → i < 64 → eqb (bit_at w i) 1 ≡ ltb i count

pub low_some : (count : ℕ) → IsLow count (2 ^ count - 1)
low_some count i h = elim (cases_lt i count) [
  | inl low ↦ let e : bit_at (2 ^ count - 1) i ≡ 1 = bit_at_ones count i low in grind (arith, nat_tests)
  | inr high ↦ let e : bit_at (2 ^ count - 1) i ≡ 0 = bit_at_ones_above count i high in grind (arith, nat_tests)
]

pub low_all : (count : ℕ) → 64 ≤ count → IsLow count (2 ^ 64 - 1)
low_all count many i h = let e : bit_at (2 ^ 64 - 1) i ≡ 1 = bit_at_ones 64 i h in grind (arith, nat_tests)

-- of sixteen words the first n have the numbers below `count`
pub record HasLowest (count n : ℕ) (ws : List ℕ) : Type 0 where
  pub words : AreWords ws
  pub low : (k : ℕ) → k < n → IsLow (count - k * 64) (get_or ws k 0)

pub contains_lowest : (count n : ℕ) (ws : List ℕ) → count ≤ 1024 → 16 ≤ n → HasLowest count n ws → (q : ℕ) → sets.contains (members ws) q ≡ ltb q count
contains_lowest count n ws few all are q = contains-members ws q ∙ elim (cases_lt q 1024) [
  | inl small ↦ ap (λ b. ltb q 1024 && b) (are.low (q / 64) (omega arith) (q % 64) (omega arith)) ∙ in_word small
  | inr large ↦ past (has_bit ws q) large
]
  where
    in_word : q < 1024 → (ltb q 1024 && ltb (q % 64) (count - q / 64 * 64)) ≡ ltb q count
    in_word h = elim (cases_lt q count) [
      | inl low ↦ let a : q % 64 < count - q / 64 * 64 = omega arith in grind (arith, nat_tests)
      | inr high ↦ let a : count - q / 64 * 64 ≤ q % 64 = omega arith in grind (arith, nat_tests)
    ]

    past : (b : Bool) → 1024 ≤ q → (ltb q 1024 && b) ≡ ltb q count
    past b h = grind (arith, nat_tests)
