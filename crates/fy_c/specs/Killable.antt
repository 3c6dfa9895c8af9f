-- which processes may still be killed, and how hard
use Rattle.std.specs.Prelude.{◌≡◌, ◌<◌, ◌≤◌, ℕ, List, length, slice_index_or}
use Rattle.fy_kinds.specs.declared.kind.Kind.TheVariants.{RebootProcess, KillInstantly}
use Rattle.fy_cluster.specs.Execution.{Execution}
use Rattle.fy_c.specs.KillingProcess.{GivenProcess, JudgesProcess}
use Rattle.fy_c.specs.Numbers.{kind_number}
use Rattle.fy_c.specs.declared.killing.Told.{Told}
use Rattle.fy_c.specs.declared.status.Status.{Status}
use Rattle.fy_c.specs.declared.status.Status.TheVariants.{Done, Refused, Short}

-- the hardest kill of a process, or where that is barred the hardest milder one
abbrev pub any_kill_of : ℕ → GivenProcess
any_kill_of p = record {
  process = p;
  kind = kind_number KillInstantly;
  floor = kind_number RebootProcess;
  tear = 0;
}

-- the kind by which that kill would strike now: the one that `JudgesProcess` tells
pub record IsHardestOn (execution : Execution) (by p kind : ℕ) : Type 0 where
  pub status : Status
  pub told : Told
  pub judged : JudgesProcess execution by (any_kill_of p) told status
  pub kind_is : kind ≡ told.struck

-- so many places at the front of a buffer have the kinds of the processes, and its others stay
pub record AreHardest (execution : Execution) (by count : ℕ) (before after : List ℕ) : Type 0
  where
    pub as_long : length after ≡ length before
    pub each : (p : ℕ) → p < count → IsHardestOn execution by p (slice_index_or after p 0)
    pub others : (i : ℕ) → count ≤ i → slice_index_or after i 0 ≡ slice_index_or before i 0

-- the kind of each process is written; or no actor has the number, or there are fewer places than
-- processes, and the buffer stays
pub data Killable (execution : Execution) (by : ℕ) (before after : List ℕ) : Status → Type 0 where
  written : by < length execution.setup.roles →
      length execution.setup.processes ≤ length before →
      AreHardest execution by (length execution.setup.processes) before after →
      Killable execution by before after Done
  stranger : length execution.setup.roles ≤ by → after ≡ before →
      Killable execution by before after Refused
  short : by < length execution.setup.roles → length before < length execution.setup.processes →
      after ≡ before → Killable execution by before after Short
