-- the set that is kept beside the protections of all processes
use Rattle.std.specs.Prelude.{◌≡◌, ◌≤◌, ℕ, false, List, length, slice_index_or}
use Rattle.std.specs.Ordering.{nat_cmp}
use Rattle.std.specs.FinSet as sets
use Rattle.fy_locality.specs.declared.TheConstants.{MOST_PROCESSES}
use Rattle.fy_kinds.specs.declared.kind_set.KindSet.{KindSet}
use Rattle.fy_kinds.specs.Kinds.{no_deed, has_some}

-- no process outside of the set is protected from any kind, and there are few enough processes
pub record AreNoted (protections : List KindSet) (noted : sets.FinSet nat_cmp) : Type 0 where
  pub few : length protections ≤ MOST_PROCESSES
  pub others : (p : ℕ) (kinds : KindSet) → sets.contains noted p ≡ false
      → has_some (slice_index_or protections p no_deed) kinds ≡ false
