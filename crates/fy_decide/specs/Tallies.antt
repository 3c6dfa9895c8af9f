-- the tallies beside the sets of a dead book
use Rattle.std.specs.Prelude.{◌≡◌, List, map}
use Rattle.std.specs.Ordering.{nat_cmp}
use Rattle.std.specs.FinSet as sets
use Rattle.fy_locality.specs.declared.locality.Locality.{Locality}
use Rattle.fy_policy.specs.Counted.{Tallied}
use Rattle.fy_policy.specs.Tree.{Tree}
use Rattle.fy_decide.specs.DeadBook.{Losses, IsSafe}

-- one set, by each policy
abbrev pub tallied : List Locality → List Tree → sets.FinSet nat_cmp → List Tallied
tallied processes policies s =
    map (λ P. record { processes = processes; policy = P; set = s }) policies

-- a tally with a set
abbrev pub with_all : sets.FinSet nat_cmp → Tallied → Tallied
with_all s tally = record tally { set = sets.union tally.set s }

-- a tally without a set
abbrev pub without_all : sets.FinSet nat_cmp → Tallied → Tallied
without_all s tally = record tally { set = sets.difference tally.set s }

-- a dead book with its tallies: it is safe, and by each policy there is a tally of the destroyed
-- and one of those left
pub record IsTalliedBook (dead : Losses) (destroyed left : List Tallied) : Type 0 where
  pub safe : IsSafe dead
  pub destroyed_agree : destroyed ≡ tallied dead.processes dead.policies dead.destroyed
  pub left_agree : left ≡ tallied dead.processes dead.policies dead.left
