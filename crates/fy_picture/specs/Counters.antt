-- counters of those that could be killed for good next
use Rattle.std.specs.Prelude.{◌≡◌, ℕ, List, map}
use Rattle.std.specs.FinSet as sets
use Rattle.fy_locality.specs.declared.locality.Locality.{Locality}
use Rattle.fy_policy.specs.Counted.{Tallied}
use Rattle.fy_policy.specs.Tree.{Tree}
use Rattle.fy_cluster.specs.Setup.{Setup}
use Rattle.fy_picture.specs.declared.column.States.{States}
use Rattle.fy_picture.specs.Killable.{killable_at, killable_by}

-- among whom a counter counts, and by which policy
pub record Counting : Type 0 where
  pub processes : List Locality
  pub policy : Tree

-- the destroyed and those left are tallied by one policy, among the same processes
abbrev pub AreTallied : (destroyed left : Tallied) → Type 0
AreTallied destroyed left = left ≡ record destroyed { set = left.set }

-- how many of them could go
abbrev pub killable_by_tallies : (destroyed left : Tallied) → ℕ
killable_by_tallies destroyed left =
    killable_by destroyed.processes destroyed.policy
    (sets.contains destroyed.set) (sets.contains left.set)

-- a counter by each policy
abbrev pub AreCounters : Setup → List Counting → Type 0
AreCounters c counters =
    counters ≡ map (λ P. record { processes = c.processes; policy = P }) c.policies

-- what a counter counts in these states
abbrev pub counted_in : States → Counting → ℕ
counted_in states counter = killable_at counter.processes counter.policy states
