-- what a binary search doesn't find
use Rattle.std.proofs.Common.{◌≡◌, ◌<◌, ◌≤◌, ◌∙◌, ℕ, zero, suc, Bool, true, false, List, [], ◌∷◌, leb-true, leb-false, refl, length, get_or, arith, Err, inl, inr, ◌⊎◌}
use Rattle.std.specs.Prelude.{◌==◌, nat_le, Contains}
use Rattle.std.specs.List.{list_any}
use Rattle.std.specs.List.Sorted.{IsNonDecreasingBy, IsBinarySearchResult}
use Rattle.std.specs.Ordering.{nat_cmp}
use Rattle.std.proofs.lemmas.List.Sorted.{searched}
use Rattle.fy_records.proofs.Chunks.{none_passes}

-- an element of a list, whatever stands for none
same_at : (xs : List ℕ) (k d e : ℕ) → k < length xs → get_or xs k d ≡ get_or xs k e
same_at [] k d e within = absurd (omega (arith, within))
same_at (x ∷ xs) zero d e within = refl
same_at (x ∷ xs) (suc k) d e within = same_at xs k d e (omega (arith, within))

le_or_lt : (m n : ℕ) → (m ≤ n) ⊎ (n < m)
le_or_lt m n = by (nat_le m n) refl
  where
    by : (b : Bool) → nat_le m n ≡ b → (m ≤ n) ⊎ (n < m)
    by true e = inl (leb-true m n e)
    by false e = inr (leb-false m n e)

-- a number that isn't found isn't there
pub not_among : (xs : List ℕ) (x i : ℕ) → IsBinarySearchResult (λ y. nat_cmp y x) xs (Err i) → IsNonDecreasingBy (λ y. y) xs
    → list_any (λ y. y == x) xs ≡ false
not_among xs x i result order = none_passes (λ y. y == x) xs differs
  where
    differs : (y : ℕ) → Contains xs y → (y == x) ≡ false
    differs y (k, within, is) =
        let parts = searched xs x (Err i) result (λ i j le within. order i j 0 le within) in
        let here : get_or xs k 0 ≡ y = same_at xs k 0 y within ∙ is in
        elim (le_or_lt i k) [
          | inl behind ↦
              let above : x < get_or xs k 0 = parts.2 k behind within in
              grind (arith, above, here)
          | inr before ↦
              let below : get_or xs k 0 < x = parts.1 k before in
              grind (arith, below, here)
        ]
