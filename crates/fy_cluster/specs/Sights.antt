-- what a cluster shows without an act: who keeps a record, and what may come next
use Rattle.std.specs.Prelude.{◌≡◌, ℕ, ◌<◌, Bool, true, false, ◌&&◌, not, length, nat_lt, Option, Some, None, option_map, MatchOption, if◌then◌else◌}
use Rattle.std.specs.List.{list_any}
use Rattle.std.specs.FinSet as sets
use Rattle.fy_locality.specs.declared.ProcId.{ProcId}
use Rattle.fy_grants.specs.Least.{IsLeastWith}
use Rattle.fy_team.specs.Teams.{is_among}
use Rattle.fy_acts.specs.declared.act.Act.TheVariants.{Deliver}
use Rattle.fy_cluster.specs.declared.machine.Machine.{Machine}
use Rattle.fy_cluster.specs.declared.sight.Sight.{Sight}
use Rattle.fy_cluster.specs.Setup.{Setup}
use Rattle.fy_cluster.specs.Needs.{has_on}
use Rattle.fy_cluster.specs.declared.status.Status.{Status}
use Rattle.fy_cluster.specs.History.{History, destroyed, gone, left, up, clogged, unsynced, now, members_for, keeps}
use Rattle.fy_cluster.specs.Replies.{refusals, needed_by}

-- ---- keepers

-- of a record's team, the least member that keeps the record
abbrev pub IsLeastKeeper : History → ℕ → ProcId → Type 0
IsLeastKeeper h rec p = IsLeastWith (is_among (members_for h rec)) (keeps h rec) p.0

-- the machine's parts say that the process isn't destroyed and has the record synced
abbrev pub keeps_on : Machine → ℕ → ℕ → Bool
keeps_on m rec p = not (sets.contains m.dead.destroyed p) && has_on m rec p

-- ---- what may come next

-- nothing speaks against delivering the message now
abbrev pub is_deliverable : Setup → History → ℕ → Bool
is_deliverable c h n = not (list_any (λ reason. reason.0) (refusals c h (Deliver n)))

-- the process is up, and has writes that it has not synced
abbrev pub needs_sync : Setup → History → ℕ → Bool
needs_sync c h p = nat_lt p (length c.processes) && up h p && nat_lt 0 (length (unsynced h p))

-- the process is neither up nor gone
abbrev pub is_asleep : Setup → History → ℕ → Bool
is_asleep c h p = left c h p && not (up h p)

-- n passes the test, and no number below it does
pub record IsLeastNumber (test : ℕ → Bool) (n : ℕ) : Type 0 where
  pub passes : test n ≡ true
  pub none_below : (k : ℕ) → k < n → test k ≡ false

-- found is the least number that passes, or none where none does
abbrev pub LeastNumber : (ℕ → Bool) → Option ℕ → Type 0
LeastNumber test found = MatchOption found ((n : ℕ) → test n ≡ false) (IsLeastNumber test)

-- the same of the numbers of processes
abbrev pub LeastProcess : (ℕ → Bool) → Option ProcId → Type 0
LeastProcess test found = LeastNumber test (option_map (λ p. p.0) found)

-- the time, the least message to deliver, and the least process to sync and to start
pub record Sees (c : Setup) (h : History) (sight : Sight) : Type 0 where
  pub time : sight.now ≡ now h
  pub deliverable : LeastNumber (is_deliverable c h) sight.deliverable
  pub unsynced : LeastProcess (needs_sync c h) sight.unsynced
  pub sleeping : LeastProcess (is_asleep c h) sight.sleeping

-- ---- what has become of a process

-- what has become of a process that is there
abbrev pub status_at : History → ℕ → Status
status_at h p = record {
  up = up h p;
  clogged = clogged h p;
  destroyed = destroyed h p;
  gone = gone h p;
}

-- what has become of a process, where it is there
abbrev pub status_of : Setup → History → ℕ → Option Status
status_of c h p = if nat_lt p (length c.processes) then Some (status_at h p) else None

-- the least acknowledged record of its teams that the process hasn't synced
abbrev pub needed_at : History → ℕ → Option ℕ
needed_at h p = needed_by h p (λ r. is_among (members_for h r) p)

-- the same, where the process is there
abbrev pub needed_of : Setup → History → ℕ → Option ℕ
needed_of c h p = if nat_lt p (length c.processes) then needed_at h p else None

-- the processes that are up
abbrev pub up_in : Setup → History → ℕ → Bool
up_in c h p = nat_lt p (length c.processes) && up h p

-- the processes whose messages are held back
abbrev pub clogged_in : Setup → History → ℕ → Bool
clogged_in c h p = nat_lt p (length c.processes) && clogged h p
