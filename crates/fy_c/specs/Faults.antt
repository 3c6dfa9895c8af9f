-- where a cluster file has its first fault
use Rattle.std.specs.Prelude.{◌≡◌, ℕ, List, Ok, Err}
use Rattle.fy_cluster.specs.Setup.{Setup}
use Rattle.fy_config.specs.Config.{ConfigOf}
use Rattle.fy_config.specs.declared.fault.Part.{Part}
use Rattle.fy_config.specs.declared.fault.Part.TheVariants.{JournalLimit, Policies, Process, Actor, Protect, Unknown}
use Rattle.fy_config.specs.declared.fault.ConfigFault.{ConfigFault}
use Rattle.fy_config.specs.declared.fault.ConfigFault.TheVariants as config
use Rattle.fy_c.specs.Opening.{NotOpened}
use Rattle.fy_c.specs.Statuses.{config_status}
use Rattle.fy_c.specs.declared.status.Status.{Status}
use Rattle.fy_c.specs.declared.status.Status.TheVariants.{Done, NoMemory}

-- parts, from 1
abbrev pub part_number : Part → ℕ
part_number JournalLimit = 1
part_number Policies = 2
part_number Process = 3
part_number Actor = 4
part_number Protect = 5
part_number Unknown = 6

-- the part that a fault is of, 0 where it is of the whole file
abbrev pub part_of : ConfigFault → ℕ
part_of config.TooLong = 0
part_of config.Toml = 0
part_of (config.Field part) = part_number part
part_of (config.Limit part) = part_number part
part_of (config.Name part index) = part_number part
part_of (config.Policy index) = part_number Policies
part_of (config.PolicyUnmet index) = part_number Policies
part_of config.NoMemory = 0

-- the place there that it names, 0 where it names none
abbrev pub place_of : ConfigFault → ℕ
place_of config.TooLong = 0
place_of config.Toml = 0
place_of (config.Field part) = 0
place_of (config.Limit part) = 0
place_of (config.Name part index) = index
place_of (config.Policy index) = index
place_of (config.PolicyUnmet index) = index
place_of config.NoMemory = 0

-- the bytes are a cluster file; or their first fault is told, with its part and place; or an
-- allocation failed
pub data Faults (bytes : List ℕ) (part place : ℕ) : Status → Type 0 where
  none : (setup : Setup) → ConfigOf bytes (Ok setup) → part ≡ 0 → place ≡ 0 →
      Faults bytes part place Done
  refused : (fault : ConfigFault) → ConfigOf bytes (Err fault) → part ≡ part_of fault →
      place ≡ place_of fault → Faults bytes part place (config_status fault)
  no_memory : NotOpened bytes NoMemory → part ≡ 0 → place ≡ 0 → Faults bytes part place NoMemory
