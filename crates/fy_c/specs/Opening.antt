-- what a guard is opened with, or why it stays closed
use Rattle.std.specs.Prelude.{◌≡◌, ◌≢◌, ◌≤◌, ℕ, List, length, IsUtf8, Ok, Err}
use Rattle.std.specs.Ptr.{null_ptr}
use Rattle.fy_config.specs.Config.{ConfigOf}
use Rattle.fy_config.specs.declared.fault.ConfigFault.{ConfigFault}
use Rattle.fy_config.specs.declared.limits.TheConstants.{MOST_FILE_BYTES}
use Rattle.fy_cluster.specs.Execution.{Execution, opened}
use Rattle.fy_c.specs.Statuses.{config_status}
use Rattle.fy_c.specs.declared.handle.FyGuard.{FyGuard}
use Rattle.fy_c.specs.declared.status.Status.{Status}
use Rattle.fy_c.specs.declared.status.Status.TheVariants.{Done, NoMemory}

-- nothing happened yet in the cluster of a cluster file of these bytes
abbrev pub Begins : List ℕ → Execution → Type 0
Begins bytes execution = ConfigOf bytes (Ok execution.setup) × (execution ≡ opened execution.setup)

-- why no guard is opened for these bytes: they are no cluster file, by the first reason that holds;
-- or an allocation failed, which is tried once they are known to be few enough and UTF-8
pub data NotOpened (bytes : List ℕ) : Status → Type 0 where
  refused : (fault : ConfigFault) → ConfigOf bytes (Err fault) →
      NotOpened bytes (config_status fault)
  no_memory : length bytes ≤ MOST_FILE_BYTES → ((IsUtf8 bytes → ⊥) → ⊥) →
      NotOpened bytes NoMemory

-- the guard is open and its cluster begins as the bytes say, or it is what it was
pub data Opens (bytes : List ℕ) (old new : FyGuard) : Status → Type 0 where
  begins : new.at ≢ null_ptr → Begins bytes new.value → Opens bytes old new Done
  refused : (status : Status) → NotOpened bytes status → new ≡ old → Opens bytes old new status

-- nothing happened yet in the cluster, or it is as it was
pub data Resets (old new : Execution) : Status → Type 0 where
  reset : new ≡ opened old.setup → Resets old new Done
  no_memory : new ≡ old → Resets old new NoMemory

-- the guard is open and its cluster has this setup and journal, or it is what it was
pub data Copies (value : Execution) (old new : FyGuard) : Status → Type 0 where
  copied : new.at ≢ null_ptr → new.value ≡ value → Copies value old new Done
  no_memory : new ≡ old → Copies value old new NoMemory
