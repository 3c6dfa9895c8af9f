-- the least process of a set that passes a test
use Rattle.std.specs.Prelude.{◌≡◌, ◌<◌, ℕ, Bool, true, false, ◌&&◌, Option, MatchOption}
use Rattle.std.specs.List.{find, range_with_len}
use Rattle.fy_locality.specs.declared.ProcId.{ProcId}

-- p is in the set and passes the test, and nothing in the set below p does
pub record IsLeastWith (set test : ℕ → Bool) (p : ℕ) : Type 0 where
  pub member : set p ≡ true
  pub passes : test p ≡ true
  pub none_below : (q : ℕ) → q < p → set q ≡ true → test q ≡ false

-- found is that process, or none where none in the set passes
abbrev pub LeastWith : (ℕ → Bool) → (ℕ → Bool) → Option ProcId → Type 0
LeastWith set test found =
    MatchOption found ((q : ℕ) → set q ≡ true → test q ≡ false) (λ p. IsLeastWith set test p.0)

-- the same as a computation: the first number below count that is in the set and passes
abbrev pub least_with : ℕ → (ℕ → Bool) → (ℕ → Bool) → Option ℕ
least_with count set test = find (λ q. set q && test q) (range_with_len 0 count)
