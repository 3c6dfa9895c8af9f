-- how many processes two groups have in common
use Rattle.std.proofs.Common.{◌≡◌, ℕ, zero, suc, ◌+◌, ◌<◌, ◌≤◌, inl, inr, Bool, true, false, cond, not, ◌&&◌, List, length, refl, sym, arith}
use Rattle.std.proofs.lemmas.Bool.{false≢true}
use Rattle.fy_locality.specs.declared.locality.Locality.{Locality}
use Rattle.fy_policy.specs.Counted.{number_of}
use Rattle.fy_votes.specs.Votes.{MeetOutside}
use Rattle.fy_votes.proofs.Electing.{search_below, met_is}

-- those of a set and the others are all
pub all_told : (s : ℕ → Bool) (n : ℕ) → number_of s n + number_of (λ p. not (s p)) n ≡ n
all_told s zero = refl
all_told s (suc n) = let rest : number_of s n + number_of (λ p. not (s p)) n ≡ n = all_told s n in go (s n) rest
  where
    go : (b : Bool) → number_of s n + number_of (λ p. not (s p)) n ≡ n → (cond b 1 0 + number_of s n) + (cond (not b) 1 0 + number_of (λ p. not (s p)) n) ≡ suc n
    go true rest = omega arith
    go false rest = omega arith

-- two groups whose common processes are all in a set have together no more than all and the set
overlap : (a b x : ℕ → Bool) (n : ℕ) → ((p : ℕ) → p < n → ((a p && b p) && not (x p)) ≡ false) → number_of a n + number_of b n ≤ n + number_of x n
overlap a b x zero none = omega arith
overlap a b x (suc n) none = go (overlap a b x n (λ p below. none p (omega arith))) (a n) (b n) (x n) (none n (omega arith))
  where
    go : number_of a n + number_of b n ≤ n + number_of x n → (s t u : Bool) → ((s && t) && not u) ≡ false → (cond s 1 0 + number_of a n) + (cond t 1 0 + number_of b n) ≤ suc n + (cond u 1 0 + number_of x n)
    go rest true true true e = omega arith
    go rest true true false e = absurd (false≢true (sym e))
    go rest true false true e = omega arith
    go rest true false false e = omega arith
    go rest false true true e = omega arith
    go rest false true false e = omega arith
    go rest false false true e = omega arith
    go rest false false false e = omega arith

-- two groups with more than that together meet outside the set
pub meet_by_number : (processes : List Locality) (writers voters forgetful : ℕ → Bool) → length processes + number_of forgetful (length processes) < number_of writers (length processes) + number_of voters (length processes) → MeetOutside processes writers voters forgetful
meet_by_number processes writers voters forgetful many = elim (search_below (λ p. (writers p && voters p) && not (forgetful p)) (length processes)) [
  | inl found ↦
      let is = met_is (writers found.0) (voters found.0) (forgetful found.0) found.2 in
      record { process = found.0; there = found.1; wrote = is.0; votes = is.1; remembers = is.2 }
  | inr none ↦
      let few : number_of writers (length processes) + number_of voters (length processes) ≤ length processes + number_of forgetful (length processes) = overlap writers voters forgetful (length processes) none in
      absurd (omega arith)
]
