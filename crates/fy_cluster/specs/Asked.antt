-- what a cluster tells of itself where it is asked
use Rattle.std.specs.Prelude.{ℕ, Bool, ◌&&◌, nat_lt, List, length, slice_get, Option, option_map}
use Rattle.fy_kinds.specs.Kinds.{those}
use Rattle.fy_kinds.specs.Members.{Members}
use Rattle.fy_grants.specs.declared.grant.Grant.{Grant}
use Rattle.fy_cluster.specs.Setup.{Setup}
use Rattle.fy_cluster.specs.History.{History, clog_ends, has_synced, now, records}
use Rattle.fy_cluster.specs.Rules.{grants, is_protected}
use Rattle.fy_cluster.specs.Execution.{Execution, history_of}

-- ---- after a history

-- the kinds from which a process is protected
abbrev pub protected_from : Setup → History → ℕ → Members
protected_from c h p = those (is_protected c h p)

-- the number of a record's team, where there is such a record
abbrev pub team_for : History → ℕ → Option ℕ
team_for h rec = option_map (λ b. b.team) (slice_get (records h) rec)

-- whether a process is there and has a record synced
abbrev pub held_by : Setup → History → (rec p : ℕ) → Bool
held_by c h rec p = nat_lt p (length c.processes) && has_synced h rec p

-- ---- now

-- the time
abbrev pub time_in : Execution → ℕ
time_in execution = now (history_of execution)

-- until when the clogs of a process last
abbrev pub clog_end_in : Execution → ℕ → ℕ
clog_end_in execution p = clog_ends (history_of execution) p

-- the kinds from which a process is protected
abbrev pub protected_in : Execution → ℕ → Members
protected_in execution p = protected_from execution.setup (history_of execution) p

-- the grants of an actor
abbrev pub grants_in : Execution → ℕ → List Grant
grants_in execution actor = grants execution.setup (history_of execution) actor

-- the number of a record's team, where there is such a record
abbrev pub team_in : Execution → ℕ → Option ℕ
team_in execution rec = team_for (history_of execution) rec

-- whether a process is there and has a record synced
abbrev pub holds_in : Execution → (rec p : ℕ) → Bool
holds_in execution rec p = held_by execution.setup (history_of execution) rec p
