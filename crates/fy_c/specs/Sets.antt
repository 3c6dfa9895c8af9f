-- sets of processes by their bits, and whom a target means
use Rattle.std.specs.Prelude.{◌≡◌, ◌≢◌, ℕ, ◌&&◌, nat_lt, List, length, IsTrue}
use Rattle.std.specs.FinSet as sets
use Rattle.fy_locality.specs.Members.{members}
use Rattle.fy_locality.specs.Name.{is_name}
use Rattle.fy_locality.specs.declared.key.Key.{Key}
use Rattle.fy_kinds.specs.declared.order.Target.{Target}
use Rattle.fy_decide.specs.Verdicts.{targets}
use Rattle.fy_cluster.specs.Execution.{Execution, history_of}
use Rattle.fy_cluster.specs.History.{ProcessSet, destroyed, gone, left}
use Rattle.fy_cluster.specs.Sights as sights
use Rattle.fy_c.specs.Numbers.{key_number}
use Rattle.fy_c.specs.declared.status.Status.{Status}
use Rattle.fy_c.specs.declared.status.Status.TheVariants.{Done, Argument, Name}

-- the words have the bit of each process that is in the set, and no other
abbrev pub AreBitsOf : List ℕ → ProcessSet → Type 0
AreBitsOf words set = (p : ℕ) → sets.contains (members words) p ≡ set p

-- who is left
abbrev pub left_in : Execution → ProcessSet
left_in execution = left execution.setup (history_of execution)

-- who is up
abbrev pub up_in : Execution → ProcessSet
up_in execution = sights.up_in execution.setup (history_of execution)

-- who is destroyed
abbrev pub destroyed_in : Execution → ProcessSet
destroyed_in execution = destroyed (history_of execution)

-- who is gone for good
abbrev pub gone_in : Execution → ProcessSet
gone_in execution p = nat_lt p (length execution.setup.processes) && gone (history_of execution) p

-- those left that have the target's value of its key
abbrev pub targets_in : Execution → Target → ProcessSet
targets_in execution target = targets execution.setup.processes (left_in execution) target

-- the target that a key's number and a name's bytes give
pub record IsTargetOf (key : ℕ) (value : List ℕ) (target : Target) : Type 0 where
  pub key_is : key ≡ key_number target.key
  pub value_is : value ≡ target.value
  pub name : IsTrue (is_name value)

-- why they give none: the number is that of no key, or the bytes are no name
pub data NoTarget (key : ℕ) (value : List ℕ) : Status → Type 0 where
  no_key : ((it : Key) → key ≢ key_number it) → NoTarget key value Argument
  no_name : (it : Key) → key ≡ key_number it → (IsTrue (is_name value) → ⊥) →
      NoTarget key value Name

-- the words have the bits of whom the target means; or there is no target, and they are as before
pub data Targets (execution : Execution) (key : ℕ) (value before after : List ℕ)
    : Status → Type 0 where
  found : (target : Target) → IsTargetOf key value target →
      AreBitsOf after (targets_in execution target) → Targets execution key value before after Done
  not_given : (status : Status) → NoTarget key value status → after ≡ before →
      Targets execution key value before after status
