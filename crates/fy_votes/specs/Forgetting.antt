-- how many processes may forget, whichever they are
use Rattle.std.specs.Prelude.{◌≡◌, ℕ, ◌+◌, ◌<◌, ◌≤◌, Bool, true, false, List, Option, Some, None, length}
use Rattle.std.specs.FinSet as sets
use Rattle.std.specs.List.{AllZip}
use Rattle.std.proofs.Common.{Global, Vec}
use Rattle.fy_locality.specs.declared.locality.Locality.{Locality}
use Rattle.fy_policy.specs.Counted.{number_of}
use Rattle.fy_policy.specs.Sat.{Sat}
use Rattle.fy_policy.specs.Tree.{Tree}
use Rattle.fy_decide.specs.DeadBook.{Losses}
use Rattle.fy_decide.specs.Safety.{everyone, with_set}
use Rattle.fy_tolerance.specs.Costs.{IsWithin}
use Rattle.fy_tolerance.specs.declared.tolerance.Tolerance.{Tolerance}
use Rattle.fy_votes.specs.Counting.{any_of}
use Rattle.fy_votes.specs.Votes.{MayForget}
use Rattle.fy_votes.specs.declared.forgetting.Forgetting.{Forgetting}

-- with the destroyed of a dead book, any set of fewer processes may forget
abbrev pub FewerMayForget : Losses → (writes elections : Tree) → (count : ℕ) → Type 0
FewerMayForget dead writes elections count =
    (s : ℕ → Bool) → number_of s (length dead.processes) < count
    → MayForget dead.processes writes elections (with_set (sets.contains dead.destroyed) s)

-- What may forget beside the destroyed of a dead book. Any fewer processes than `fewest` may; those
-- named may not. Where those are so many, no greater number is right: they are so beside 0, and
-- where both policies count processes. Else `fewest` may be less than it could be.
pub record IsForgetting (dead : Losses) (writes elections : Tree) (found : Forgetting) : Type 0
  where
    pub fewer : FewerMayForget dead writes elections found.fewest
    pub too_many : MayForget dead.processes writes elections
        (with_set (sets.contains dead.destroyed) (sets.contains found.too_many)) → ⊥
    pub greatest : sets.len found.too_many ≡ found.fewest
        → (count : ℕ) → FewerMayForget dead writes elections count → count ≤ found.fewest
    pub counted : (w e : ℕ) → writes ≡ any_of w → elections ≡ any_of e
        → sets.len found.too_many ≡ found.fewest

-- so it is by each policy of writes; nothing is found where not even all processes together satisfy
-- the policy of elections
abbrev pub AreForgettings : Losses → (elections : Tree) → Option (Vec Forgetting Global) → Type 0
AreForgettings dead elections None =
    Sat dead.processes elections (everyone dead.processes) → ⊥
AreForgettings dead elections (Some found) =
    AllZip (λ writes one. IsForgetting dead writes elections one) dead.policies found.items

-- How many processes it takes to satisfy a policy beside a set: more than `any`. Those named do, and
-- none of them is needless. A policy that counts processes needs no more than so many and one.
pub record Takes (processes : List Locality) (policy : Tree) (beside : ℕ → Bool) (found : Tolerance)
    : Type 0 where
  pub any : (s : ℕ → Bool) → number_of s (length processes) ≤ found.any
      → Sat processes policy (with_set beside s) → ⊥
  pub enough : Sat processes policy (with_set beside (sets.contains found.too_many))
  pub least : (part : ℕ → Bool) (p : ℕ) → IsWithin part (sets.contains found.too_many)
      → sets.contains found.too_many p ≡ true → part p ≡ false
      → Sat processes policy (with_set beside part) → ⊥
  pub counted : (k : ℕ) → policy ≡ any_of k
      → (k ≤ number_of beside (length processes) + found.any + 1)
      × (sets.len found.too_many ≡ found.any + 1)
