-- what it is to satisfy a policy: as a relation, and as a test that computes
use Rattle.std.specs.Prelude.{◌≡◌, ℕ, ◌<◌, ◌≤◌, Bool, true, not, ◌&&◌, List, length, filter, Some, nat_le}
use Rattle.std.specs.List.{IsDistinct, AllByRecursion, list_any, range_with_len}
use Rattle.std.specs.Str.{bytes_eq}
use Rattle.fy_locality.specs.declared.locality.Locality.{Locality}
use Rattle.fy_locality.specs.declared.key.Key.{Key}
use Rattle.fy_locality.specs.Locality.{has_value, value_of, values_of}
use Rattle.fy_policy.specs.Tree.{Tree, one, across, every, Parts, none, part}

-- there are n different names that pass
pub record AtLeast (n : ℕ) (P : List ℕ → Type 0) : Type 0 where
  pub names : List (List ℕ)
  pub many : n ≤ length names
  pub different : IsDistinct bytes_eq names
  pub each : AllByRecursion P names

-- some process has the value v of the key
abbrev pub IsValueOf : List Locality → Key → List ℕ → Type 0
IsValueOf processes key v = (p : ℕ) × (value_of processes key p ≡ Some v)

-- those of s that have the value v of the key
abbrev pub group : List Locality → Key → List ℕ → (ℕ → Bool) → ℕ → Bool
group processes key v s p = s p && has_value processes key v p

-- those of s that don't have the value v of the key
abbrev pub outside : List Locality → Key → List ℕ → (ℕ → Bool) → ℕ → Bool
outside processes key v s p = s p && not (has_value processes key v p)

-- one: some process; across n key q: n different values of the key have each a group that satisfies
-- q; every: each part
unfoldable mutual
  pub Sat : List Locality → Tree → (ℕ → Bool) → Type 0
  Sat processes one s = (p : ℕ) × (p < length processes) × (s p ≡ true)
  Sat processes (across n key q) s =
      AtLeast n (λ v. IsValueOf processes key v × Sat processes q (group processes key v s))
  Sat processes (every qs) s = SatAll processes qs s

  -- each part is satisfied
  pub SatAll : List Locality → Parts → (ℕ → Bool) → Type 0
  SatAll processes none s = Unit {0}
  SatAll processes (part q qs) s = Sat processes q s × SatAll processes qs s

-- the same as a test: across n key q counts the values of the key whose group passes q
unfoldable mutual
  pub satisfies : List Locality → Tree → (ℕ → Bool) → Bool
  satisfies processes one s = list_any s (range_with_len 0 (length processes))
  satisfies processes (across n key q) s =
      nat_le n (length
      (filter (λ v. satisfies processes q (group processes key v s)) (values_of processes key)))
  satisfies processes (every qs) s = all_satisfy processes qs s

  -- the same as a test
  pub all_satisfy : List Locality → Parts → (ℕ → Bool) → Bool
  all_satisfy processes none s = true
  all_satisfy processes (part q qs) s = satisfies processes q s && all_satisfy processes qs s
