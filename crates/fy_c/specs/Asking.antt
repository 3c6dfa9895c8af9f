-- which process has a name, and what is told of a sight
use Rattle.std.specs.Prelude.{◌≡◌, ◌≢◌, ◌<◌, ℕ, List, length, IsTrue, Some}
use Rattle.fy_locality.specs.Name.{is_name}
use Rattle.fy_locality.specs.Locality.{value_of}
use Rattle.fy_locality.specs.declared.key.Key.TheVariants.{Process}
use Rattle.fy_locality.specs.declared.locality.Locality.{Locality}
use Rattle.fy_cluster.specs.Execution.{Execution, history_of}
use Rattle.fy_cluster.specs.Sights.{Sees}
use Rattle.fy_cluster.specs.declared.sight.Sight.{Sight}
use Rattle.fy_c.specs.Numbers.{process_number, message_number}
use Rattle.fy_c.specs.declared.asking.FySeen.{FySeen}

-- the process has the name; or none has it, since it is no name, or is that of another process
pub data Finds (processes : List Locality) (name : List ℕ) : ℕ → Type 0 where
  found : (p : ℕ) → p < length processes → value_of processes Process p ≡ Some name →
      Finds processes name p
  no_name : (IsTrue (is_name name) → ⊥) → Finds processes name 4294967295
  none : ((p : ℕ) → value_of processes Process p ≢ Some name) → Finds processes name 4294967295

-- what is told of a sight
abbrev pub told_seen : Sight → FySeen
told_seen sight = record {
  now = sight.now;
  deliverable = message_number sight.deliverable;
  unsynced = process_number sight.unsynced;
  sleeping = process_number sight.sleeping;
}

-- what is told is what the cluster shows
pub record Shows (execution : Execution) (told : FySeen) : Type 0 where
  pub sight : Sight
  pub sees : Sees execution.setup (history_of execution) sight
  pub told_is : told ≡ told_seen sight
