-- a set's bits are had back from its members: stands here since `KindSet` needs it to be `Copy`
use Rattle.std.specs.Prelude.{◌≡◌, ◌==◌, ◌&&◌, ℕ, ◌<◌, Bool, true, false, refl}
use Rattle.std.proofs.Common.{zero, suc, ap, ◌∙◌, arith, inl, inr}
use Rattle.std.proofs.lemmas.Bool.{cases_lt}
use Rattle.std.proofs.lemmas.Bool.Decides.{nat_tests}
use Rattle.fy_kinds.specs.Kinds.{bits_of, set_of_bits}

-- whether each number below a bound passes a test
abbrev pub all_below : (ℕ → Bool) → ℕ → Bool
all_below test zero = true
all_below test (suc n) = test n && all_below test n

both : (a b : Bool) → (a && b) ≡ true → (a ≡ true) × (b ≡ true)
both true b e = (refl, e)
both false b e = absurd (let none : ⊥ = cc in none)

pub each_below : (test : ℕ → Bool) (n : ℕ) → all_below test n ≡ true
    → (k : ℕ) → k < n → test k ≡ true
each_below test zero e k h = absurd (let none : ⊥ = omega arith in none)
each_below test (suc n) e k h =
    elim (cases_lt k n) [
      | inl below ↦ each_below test n (both _ _ e).1 k below
      | inr last ↦ let same : k ≡ n = omega arith in ap test same ∙ (both _ _ e).0
    ]

alike : (a b : ℕ) → (a == b) ≡ true → a ≡ b
alike a b e = grind (arith, nat_tests)

pub bits_back : (bits : ℕ) → bits < 32 → bits_of (set_of_bits bits) ≡ bits
bits_back bits h = alike _ _ (each_below (λ n. bits_of (set_of_bits n) == n) 32 refl bits h)
