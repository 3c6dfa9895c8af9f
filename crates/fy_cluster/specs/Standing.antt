-- what a machine keeps of a history: one equation for each of its parts
use Rattle.std.specs.Prelude.{◌≡◌, ℕ, ◌+◌, ◌*◌, ◌<◌, ◌≤◌, Bool, false, not, List, [], ◌∷◌, ◌++◌, length, map, filter, slice_get, slice_index, slice_index_or, Option, Some, Result, Ok, Err, if◌then◌else◌}
use Rattle.std.specs.Option.{option_map_or}
use Rattle.std.specs.Ordering.{nat_cmp}
use Rattle.std.specs.FinSet as sets
use Rattle.fy_locality.specs.declared.TheConstants.{MOST_PROCESSES}
use Rattle.fy_kinds.specs.declared.kind.Kind.{Kind}
use Rattle.fy_kinds.specs.declared.kind.Kind.TheVariants.{RebootProcess, Reboot, RebootAndDelete, KillInstantly}
use Rattle.fy_kinds.specs.declared.order.Target.{Target}
use Rattle.fy_kinds.specs.declared.verdict.Rule.{Rule}
use Rattle.fy_kinds.specs.Kinds.{Deed, Clogging, has}
use Rattle.fy_grants.specs.Rights.{Rights, grants_of, protections_of}
use Rattle.fy_decide.specs.DeadBook.{Losses, struck}
use Rattle.fy_decide.specs.Verdicts.{situation_of, targets, bar, loss_of}
use Rattle.fy_disk.specs.Disk.{Stored, empty_disk, crashed}
use Rattle.fy_net.specs.declared.message.Body.{Body}
use Rattle.fy_net.specs.declared.message.Message.{Message}
use Rattle.fy_net.specs.declared.fault.NetFault.{NetFault}
use Rattle.fy_net.specs.declared.fault.NetFault.TheVariants.{NetFull as NetNetFull, NoMessage as NetNoMessage, Clogged as NetClogged, ClockEnd as NetClockEnd, NoMemory as NetNoMemory}
use Rattle.fy_net.specs.Net.{NetState}
use Rattle.fy_net.specs.declared.limits.TheConstants.{MOST_IN_FLIGHT}
use Rattle.fy_team.specs.declared.fault.TeamFault.{TeamFault}
use Rattle.fy_team.specs.declared.fault.TeamFault.TheVariants.{TooMany as TeamTooMany, NoPolicy as TeamNoPolicy, NoProcess as TeamNoProcess, Gone as TeamGone, TeamShort as IsShort, NoTeam as TeamNoTeam, Payload as TeamPayload, NoMemory as TeamNoMemory}
use Rattle.fy_team.specs.Teams.{Roster, Record, is_marked, is_acked}
use Rattle.fy_acts.specs.declared.act.Act.{Act}
use Rattle.fy_acts.specs.declared.reply.Reply.{Reply}
use Rattle.fy_acts.specs.declared.reply.Reply.TheVariants.{No}
use Rattle.fy_acts.specs.declared.reply.Refusal.TheVariants.{NoActor as Nobody, NoSuch as Nothing, Full as TooFull, TooMany, NoPolicy, NoProcess, Gone, TeamShort, NoTeam, Payload, NetFull, NoMessage, Clogged, ClockEnd}
use Rattle.fy_acts.specs.declared.entry.Entry.{Entry}
use Rattle.fy_acts.specs.declared.version.Version.TheVariants.{Second}
use Rattle.fy_acts.specs.Journal.{Log}
use Rattle.fy_grants.specs.declared.book.BookFault.{BookFault}
use Rattle.fy_grants.specs.declared.book.BookFault.TheVariants.{NoActor, NoSuch, Full, NoMemory as BookNoMemory}
use Rattle.fy_cluster.specs.declared.fault.Fault.{Fault}
use Rattle.fy_cluster.specs.declared.fault.Fault.TheVariants.{NoMemory}
use Rattle.fy_cluster.specs.declared.machine.Machine.{Machine}
use Rattle.fy_cluster.specs.Setup.{Setup, IsSetup}
use Rattle.fy_cluster.specs.Execution.{Execution}
use Rattle.fy_cluster.specs.History.{History, Step, BegunRecord, destroyed, left, up, synced, unsynced, sent, is_removed, now, clog_ends, teams, records, marked, acked, step_of, history}
use Rattle.fy_cluster.specs.Rules.{grants, is_protected}
use Rattle.fy_cluster.specs.Replies.{refusals, answer, reply, first_refusal_or, Legal}

-- ---- the parts

-- who is destroyed, who is left, and who is gone: nobody but processes
pub record RefinesDead (c : Setup) (h : History) (dead : Losses) : Type 0 where
  pub processes : dead.processes ≡ c.processes
  pub policies : dead.policies ≡ c.policies
  pub few : length c.processes ≤ MOST_PROCESSES
  pub destroyed : (p : ℕ) → sets.contains dead.destroyed p ≡ destroyed h p
  pub left : (p : ℕ) → sets.contains dead.left p ≡ left c h p

-- the dead book with a set taken down as lost, where the kind destroys
abbrev pub with_losses : Losses → sets.FinSet nat_cmp → Kind → Losses
with_losses dead set kind = option_map_or (λ loss. struck dead set loss) (loss_of kind) dead

-- the processes, the grants of each actor, and what each process is protected from
pub record RefinesRights (c : Setup) (h : History) (rights : Rights) : Type 0 where
  pub map : rights.processes ≡ c.processes
  pub actors : length rights.grants ≡ length c.roles
  pub processes : length rights.protections ≡ length c.processes
  pub grants : (a : ℕ) → grants_of rights a ≡ grants c h a
  pub protections : (p : ℕ) (deed : Deed) →
      has (protections_of rights p) deed ≡ is_protected c h p deed

-- what a process has on its disk
abbrev pub stored : History → ℕ → Stored
stored h p = record { synced = synced h p; unsynced = unsynced h p }

-- what a strike leaves on a disk
abbrev pub disk_after_strike : Kind → ℕ → Stored → Stored
disk_after_strike RebootProcess tear disk = disk
disk_after_strike Reboot tear disk = crashed tear disk
disk_after_strike RebootAndDelete tear disk = empty_disk
disk_after_strike KillInstantly tear disk = empty_disk

-- the elements at the numbers of a set are changed, and no others; `empty_disk` stands for one that
-- isn't there
pub record ChangesAt {X : Type 0} (set : ℕ → Bool) (change : X → X) (empty_disk : X)
    (old new : List X) : Type 0 where
  pub count : length new ≡ length old
  pub each : (p : ℕ) → p < length old
      → let was = slice_index_or old p empty_disk in
      slice_index_or new p empty_disk ≡ (if set p then change was else was)

-- a disk for each process
pub record RefinesDisks (c : Setup) (h : History) (disks : List Stored) : Type 0 where
  pub count : length disks ≡ length c.processes
  pub each : (p : ℕ) → p < length c.processes → slice_get disks p ≡ Some (stored h p)

-- who is up
pub record RefinesUp (c : Setup) (h : History) (set : sets.FinSet nat_cmp) : Type 0 where
  pub each : (p : ℕ) → p < length c.processes → sets.contains set p ≡ up h p

-- messages with their numbers, the first of which is given
abbrev pub numbered : ℕ → List Body → List Message
numbered k [] = []
numbered k (b ∷ bodies) = record { number = k; body = b } ∷ numbered (k + 1) bodies

-- these bodies were sent one after another since the network was so, each by a place of its room
pub record Sends (before : NetState) (bodies : List Body) (net : NetState) : Type 0 where
  pub in_flight : net.in_flight ≡ before.in_flight ++ numbered before.sent bodies
  pub count : net.sent ≡ before.sent + length bodies
  pub clock : net.clock ≡ before.clock
  pub until : net.until ≡ before.until
  pub room : net.room + length bodies ≡ before.room

-- the messages in flight, each with its number
abbrev pub messages_in_flight : History → List Message
messages_in_flight h = filter (λ x. not (is_removed h x.number)) (numbered 0 (sent h))

-- the messages in flight, how many were sent, the time, and until when each process is clogged
pub record RefinesNet (c : Setup) (h : History) (net : NetState) : Type 0 where
  pub in_flight : net.in_flight ≡ messages_in_flight h
  pub sent_so_far : net.sent ≡ length (sent h)
  pub clock : net.clock ≡ now h
  pub count : length net.until ≡ length c.processes
  pub ends : (p : ℕ) → p < length c.processes → slice_index net.until p ≡ clog_ends h p
  -- nothing was taken out before it was sent, and no entry sent more than may be in flight
  pub early : (n : ℕ) → length (sent h) ≤ n → is_removed h n ≡ false
  pub few : length (sent h) ≤ MOST_IN_FLIGHT * length h

-- it changes, by the time, until when the processes of a set are clogged, and nothing else
pub record ClogsChange (set : ℕ → Bool) (change : ℕ → ℕ → ℕ) (old new : NetState) : Type 0 where
  pub rest : new ≡ record old { until = new.until }
  pub ends : ChangesAt set (change old.clock) 0 old.until new.until

-- a record without its marks and its acknowledgement
abbrev pub begun_of : Record → BegunRecord
begun_of it = record { team = it.team; payload = it.payload }

-- the teams, the records, who marked each, and which are acknowledged
pub record RefinesTeams (h : History) (roster : Roster) : Type 0 where
  pub teams : roster.teams ≡ teams h
  pub records : map begun_of roster.records ≡ records h
  pub marks : (r p : ℕ) → is_marked roster r p ≡ marked h r p
  pub acked : (r : ℕ) → is_acked roster r ≡ acked h r

-- ---- the whole

-- the machine keeps the history: each of its parts does
pub record Refines (c : Setup) (h : History) (m : Machine) : Type 0 where
  pub dead : RefinesDead c h m.dead
  pub rights : RefinesRights c h m.book
  pub disks : RefinesDisks c h m.disks
  pub up : RefinesUp c h m.up
  pub net : RefinesNet c h m.net
  pub teams : RefinesTeams h m.teams

-- the processes of a target that are left, by the machine
abbrev pub targets_by : Machine → Target → ℕ → Bool
targets_by m target = targets m.dead.processes (sets.contains m.dead.left) target

-- why an actor may not clog a target, by the machine
abbrev pub clog_bar : Machine → ℕ → Target → Option Rule
clog_bar m by target = bar (situation_of m.dead m.book by) Clogging (targets_by m target)

-- ---- one act

-- where an act stands: the setup, what came before, and who acts
pub record Point : Type 0 where
  pub setup : Setup
  pub before : History
  pub by : ℕ

-- the entry that an act makes
abbrev pub entry_of : Point → Act → Reply → Entry
entry_of point act reply =
    record { at = length point.before; by = point.by; act = act; reply = reply }

-- that entry with what it did
abbrev pub step_at : Point → Act → Reply → Step
step_at point act reply = step_of point.setup point.before (entry_of point act reply)

-- the history with it
abbrev pub following : Point → Act → Reply → History
following point act reply = step_at point act reply ∷ point.before

-- the act got its reply, and the machine keeps the history with its entry
pub record StepsTo (point : Point) (act : Act) (reply : Reply) (m : Machine) : Type 0 where
  pub right : reply
      ≡ first_refusal_or (refusals point.setup point.before act)
      (answer point.setup point.before point.by act)
  pub stands : Refines point.setup (following point act reply) m

-- it got its reply, or an allocation failed and the machine keeps the history as it was
abbrev pub StepsToOrOom : Point → Act → Result Reply Fault → Machine → Type 0
StepsToOrOom point act (Ok reply) m = StepsTo point act reply m
StepsToOrOom point act (Err fault) m = (fault ≡ NoMemory) × Refines point.setup point.before m

-- the act's reply to whoever asked, with the two reasons that come before all, or an allocation
-- failed
abbrev pub RepliesOrOom : Point → Act → Result Reply Fault → Machine → Type 0
RepliesOrOom point act (Ok answered) m =
    (answered ≡ reply point.setup point.before point.by act)
    × Refines point.setup (following point act answered) m
RepliesOrOom point act (Err fault) m = (fault ≡ NoMemory) × Refines point.setup point.before m

-- the act's entry, made at this place with its reply, or an allocation failed
abbrev pub EntersOrOom : Point → (at by : ℕ) → Act → Result Entry Fault → Machine → Type 0
EntersOrOom point at by act (Ok entry) m =
    (entry ≡ record {
      at = at;
      by = by;
      act = act;
      reply = reply point.setup point.before point.by act;
    })
    × Refines point.setup (following point act entry.reply) m
EntersOrOom point at by act (Err fault) m = (fault ≡ NoMemory) × Refines point.setup point.before m

-- what a fault of the book means to whoever acts
abbrev pub reply_to_fault : BookFault → Result Reply Fault
reply_to_fault NoActor = Ok (No Nobody)
reply_to_fault NoSuch = Ok (No Nothing)
reply_to_fault Full = Ok (No TooFull)
reply_to_fault BookNoMemory = Err NoMemory

-- what a fault of the teams means to whoever acts
abbrev pub reply_to_team_fault : TeamFault → Result Reply Fault
reply_to_team_fault TeamTooMany = Ok (No TooMany)
reply_to_team_fault TeamNoPolicy = Ok (No NoPolicy)
reply_to_team_fault TeamNoProcess = Ok (No NoProcess)
reply_to_team_fault TeamGone = Ok (No Gone)
reply_to_team_fault (IsShort policy) = Ok (No (TeamShort policy))
reply_to_team_fault TeamNoTeam = Ok (No NoTeam)
reply_to_team_fault TeamPayload = Ok (No Payload)
reply_to_team_fault TeamNoMemory = Err NoMemory

-- what a fault of the network means
abbrev pub reply_to_net_fault : NetFault → Result Reply Fault
reply_to_net_fault NetNetFull = Ok (No NetFull)
reply_to_net_fault NetNoMessage = Ok (No NoMessage)
reply_to_net_fault NetClogged = Ok (No Clogged)
reply_to_net_fault NetClockEnd = Ok (No ClockEnd)
reply_to_net_fault NetNoMemory = Err NoMemory

-- the history is that of a legal journal of a setup
pub record IsReachable (c : Setup) (h : History) : Type 0 where
  pub journal : List Entry
  pub same : history c journal ≡ h
  pub setup : IsSetup c
  pub legal : Legal c journal
  pub room : length journal < c.limit

-- ---- the cluster

-- the journal is legal, and the machine keeps its history
pub record RefinesJournal (c : Setup) (journal : List Entry) (m : Machine) : Type 0 where
  pub setup : IsSetup c
  pub legal : Legal c journal
  pub stands : Refines c (history c journal) m

-- the kept journal is the state's, and of the second version
pub record KeepsJournal (state : Execution) (log : Log) : Type 0 where
  pub same : log.entries ≡ state.journal
  pub second : log.version ≡ Second
