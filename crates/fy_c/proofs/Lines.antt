-- which places of a journal have an entry
use Rattle.std.proofs.Common.{◌≡◌, ◌≤◌, ◌<◌, ℕ, zero, suc, List, [], ◌∷◌, length, arith, slice_get, Some, None}

-- a place where nothing is found is past the end
pub past_end : {X : Type 0} (xs : List X) (i : ℕ) → None ≡ slice_get xs i → length xs ≤ i
past_end [] i is = omega arith
past_end (x ∷ xs) zero is = absurd (cc)
past_end (x ∷ xs) (suc i) is = let more = past_end xs i is in omega (arith, more)

-- and one where something is found is within
pub within : {X : Type 0} (xs : List X) (i : ℕ) (x : X) → Some x ≡ slice_get xs i → i < length xs
within [] i x is = absurd (cc)
within (x ∷ xs) zero it is = omega arith
within (x ∷ xs) (suc i) it is = let more = within xs i it is in omega (arith, more)
