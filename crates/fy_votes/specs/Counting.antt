-- how many processes may forget, where both policies count processes
use Rattle.std.specs.Prelude.{◌≡◌, ◌↔◌, ℕ, ◌+◌, ◌<◌, ◌≤◌, Bool, List, length}
use Rattle.fy_locality.specs.declared.locality.Locality.{Locality}
use Rattle.fy_locality.specs.declared.key.Key.TheVariants.{Process}
use Rattle.fy_locality.specs.Locality.{NamesDiffer}
use Rattle.fy_policy.specs.Counted.{number_of}
use Rattle.fy_policy.specs.Tree.{Tree, one, across}
use Rattle.fy_votes.specs.Votes.{MayForget}

-- Across(n,processid,One())
abbrev pub any_of : ℕ → Tree
any_of n = across n Process one

-- of n processes, where w remember a record and e elect, a set may forget exactly where it has fewer
-- than w + e - n of them
abbrev pub ByCounts : Type 0
ByCounts =
    (processes : List Locality) (w e : ℕ) (forgetful : ℕ → Bool)
    → NamesDiffer processes → w ≤ length processes → e ≤ length processes
    → MayForget processes (any_of w) (any_of e) forgetful
    ↔ (number_of forgetful (length processes) + length processes < w + e)

-- of so many processes, where w remember a record and e elect, those sets may forget that have at
-- most so many of them
abbrev pub MostMayForget : (count w e most : ℕ) → Type 0
MostMayForget count w e most =
    (processes : List Locality) (forgetful : ℕ → Bool)
    → NamesDiffer processes → length processes ≡ count
    → MayForget processes (any_of w) (any_of e) forgetful
    ↔ (number_of forgetful count ≤ most)
