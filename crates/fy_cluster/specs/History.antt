-- What the entries before a step have done. A journal has the oldest entry first. A history has
-- the newest first, so that what was before a step is the rest of the list, and beside each entry
-- it has what that entry did.
use Rattle.std.specs.Prelude.{ℕ, ◌+◌, min, max, Bool, true, false, ◌&&◌, ◌||◌, not, List, [], ◌∷◌, ◌++◌, length, map, filter, Option, Some, None, is_some, is_none, option_map, unwrap_or, option_to_list, option_and_then, nat_lt, ◌==◌, slice_get, slice_set, if◌then◌else◌}
use Rattle.std.specs.List.{list_any, list_all, range_with_len}
use Rattle.std.specs.Option.{option_map_or}
use Rattle.fy_locality.specs.declared.ProcId.{ProcId}
use Rattle.fy_kinds.specs.declared.kind.Kind.{Kind}
use Rattle.fy_kinds.specs.declared.kind.Kind.TheVariants.{RebootProcess}
use Rattle.fy_kinds.specs.declared.kind_set.KindSet.{KindSet}
use Rattle.fy_kinds.specs.declared.order.Target.{Target}
use Rattle.fy_kinds.specs.Kinds.{is_destroying, destroys_for_good}
use Rattle.fy_grants.specs.declared.grant.Grant.{Grant}
use Rattle.fy_disk.specs.declared.item.Item.{Item}
use Rattle.fy_disk.specs.Disk.{outlives}
use Rattle.fy_disk.specs.Disks.{has_record}
use Rattle.fy_net.specs.declared.message.Body.{Body}
use Rattle.fy_net.specs.declared.message.Body.TheVariants.{Store, Synced}
use Rattle.fy_net.specs.Net.{is_ack_from}
use Rattle.fy_grants.specs.Least.{least_with}
use Rattle.fy_net.specs.declared.limits.TheConstants.{LAST_TICK}
use Rattle.fy_team.specs.Teams.{Team, is_among, swapped}
use Rattle.fy_decide.specs.Verdicts.{targets}
use Rattle.fy_acts.specs.declared.act.Act.{Act}
use Rattle.fy_acts.specs.declared.act.Act.TheVariants.{Kill, Clog, Unclog, Form, Begin, Deliver, Lose, Resend, Sync, Up, Tick, Give, Take, Protect, Unprotect, CopyTo, Replace, Heal}
use Rattle.fy_acts.specs.declared.reply.Reply.{Reply}
use Rattle.fy_acts.specs.declared.reply.Reply.TheVariants.{Verdict, Ruled, No, Stored}
use Rattle.fy_acts.specs.declared.entry.Entry.{Entry}
use Rattle.fy_cluster.specs.Setup.{Setup}

-- a set of processes, as a test on their numbers
abbrev pub ProcessSet : Type 0
ProcessSet = ℕ → Bool

-- a record that was begun: its team and its payload
pub record BegunRecord : Type 0 where
  pub team : ℕ
  pub payload : List ℕ

-- an entry with what it did: whom its target named, the message that it names, the messages that
-- it sent, and the numbers of those that it took out of the network
pub record Step : Type 0 where
  pub entry : Entry
  pub targets : ProcessSet
  pub message : Option Body
  pub sends : List Body
  pub removes : ℕ → Bool

-- the newest first
abbrev pub History : Type 0
History = List Step

-- ---- what one entry says

-- answered with another reply than No and, for Clog and Unclog, without a rule
abbrev pub is_accepted : Reply → Bool
is_accepted (No refusal) = false
is_accepted (Ruled rule) = is_none rule
is_accepted _ = true

-- x, where the reply accepts
abbrev pub if_accepted : {X : Type 0} → Reply → X → Option X
if_accepted r x = if is_accepted r then Some x else None

-- the kind that a Kill's verdict struck
abbrev pub struck_by : Act → Reply → Option Kind
struck_by (Kill order) (Verdict verdict) = verdict.struck
struck_by _ _ = None

-- which bits say what a Reboot leaves of the unsynced writes
abbrev pub tear_of : Act → ℕ
tear_of (Kill order) = order.tear
tear_of _ = 0

-- What an accepted entry of an act names; None for any other entry.

-- for how many ticks it clogs
abbrev pub clogs : Act → Reply → Option ℕ
clogs (Clog target ticks) r = if_accepted r ticks
clogs _ r = None

-- whose clogs end
abbrev pub unclogs : Act → Reply → Option Target
unclogs (Unclog target) r = if_accepted r target
unclogs _ r = None

-- the team that is formed
abbrev pub forms : Act → Reply → Option Team
forms (Form members policy) r = if_accepted r (record { members = members; policy = policy })
forms _ r = None

-- the record that is begun
abbrev pub begins : Act → Reply → Option BegunRecord
begins (Begin team payload) r = if_accepted r (record { team = team; payload = payload })
begins _ r = None

-- the number of the message that is delivered
abbrev pub delivers : Act → Reply → Option ℕ
delivers (Deliver message) r = if_accepted r message
delivers _ r = None

-- the number of the message that is lost
abbrev pub loses : Act → Reply → Option ℕ
loses (Lose message) r = if_accepted r message
loses _ r = None

-- the process that syncs
abbrev pub syncs : Act → Reply → Option ℕ
syncs (Sync process) r = if_accepted r process.0
syncs _ r = None

-- the process that starts
abbrev pub ups : Act → Reply → Option ℕ
ups (Up process) r = if_accepted r process.0
ups _ r = None

-- how many ticks pass
abbrev pub ticks : Act → Reply → Option ℕ
ticks (Tick n) r = if_accepted r n
ticks _ r = None

-- the grant that is given
abbrev pub gives : Act → Reply → Option Grant
gives (Give grant) r = if_accepted r grant
gives _ r = None

-- the actor and the place of the grant that is taken
abbrev pub takes_grant : Act → Reply → Option (ℕ × ℕ)
takes_grant (Take actor index) r = if_accepted r (actor, index)
takes_grant _ r = None

-- the process, and from what it is protected
abbrev pub protects : Act → Reply → Option (ℕ × KindSet)
protects (Protect process kinds) r = if_accepted r (process.0, kinds)
protects _ r = None

-- the process, and from what it is protected no more
abbrev pub unprotects : Act → Reply → Option (ℕ × KindSet)
unprotects (Unprotect process kinds) r = if_accepted r (process.0, kinds)
unprotects _ r = None

-- who leaves a team, and who comes for it
pub record Swap : Type 0 where
  pub team : ℕ
  pub out : ProcId
  pub into : ProcId

-- the swap that is made in a team
abbrev pub replaces : Act → Reply → Option Swap
replaces (Replace team out into) r =
    if_accepted r (record { team = team; out = out; into = into })
replaces _ r = None

-- the process that is healed
abbrev pub heals : Act → Reply → Option ℕ
heals (Heal process) r = if_accepted r process.0
heals _ r = None

-- whether there is a value that passes
abbrev pub some_is : {X : Type 0} → (X → Bool) → Option X → Bool
some_is test None = false
some_is test (Some x) = test x

-- ---- strikes

-- Reboot or a destroying kind: it decides what becomes of unsynced writes
abbrev pub is_closing : Kind → Bool
is_closing RebootProcess = false
is_closing _ = true

-- the kind by which the entry struck the process
abbrev pub strikes : Step → ℕ → Option Kind
strikes m p = if m.targets p then struck_by m.entry.act m.entry.reply else None

-- the entry struck the process by a destroying kind
abbrev pub destroys : Step → ℕ → Bool
destroys m p = some_is is_destroying (strikes m p)

-- the entry healed the process
abbrev pub heals_at : Step → ℕ → Bool
heals_at m p = some_is (λ q. q == p) (heals m.entry.act m.entry.reply)

-- some entry destroyed it, and none healed it since
abbrev pub destroyed : History → ProcessSet
destroyed [] p = false
destroyed (m ∷ h) p = destroys m p || not (heals_at m p) && destroyed h p

-- some entry struck it by the kind that leaves nobody to come back
abbrev pub gone : History → ProcessSet
gone h p = list_any (λ m. some_is destroys_for_good (strikes m p)) h

-- the processes that are not gone, emptied ones too
abbrev pub left : Setup → History → ProcessSet
left c h p = nat_lt p (length c.processes) && not (gone h p)

-- no strike after the last accepted Up
abbrev pub up : History → ProcessSet
up [] p = true
up (m ∷ h) p =
    some_is (λ q. q == p) (ups m.entry.act m.entry.reply) || (is_none (strikes m p) && up h p)

-- ---- disks

-- the entry is an accepted Sync of the process
abbrev pub syncs_at : Step → ℕ → Bool
syncs_at m p = some_is (λ q. q == p) (syncs m.entry.act m.entry.reply)

-- the reply to a Store that was delivered
abbrev pub is_stored : Reply → Bool
is_stored Stored = true
is_stored _ = false

-- the record that a message asks the process to store
abbrev pub store_to : ℕ → Body → Option ℕ
store_to p (Store rec to) = if to.0 == p then Some rec else None
store_to p (Synced rec from) = None

-- the record that the entry, a Deliver answered Stored, wrote to the process
abbrev pub writes : Step → ℕ → Option ℕ
writes m p =
    if is_some (delivers m.entry.act m.entry.reply) && is_stored m.entry.reply
    then option_and_then (store_to p) m.message else None

-- whether the entry decides what becomes of the pending writes to the process
abbrev pub closes : ℕ → Step → Bool
closes p m = syncs_at m p || some_is is_closing (strikes m p)

-- the entry, which closes, keeps the pending write with this number
abbrev pub close_keeps : ℕ → ℕ → Step → Bool
close_keeps p i m = syncs_at m p || not (destroys m p) && outlives (tear_of m.entry.act) i

-- ---- teams and records

-- the team once another process stands in for a member
abbrev pub with_swap : Swap → Team → Team
with_swap s team = record team { members = swapped s.out s.into team.members }

-- the teams once a swap is made in one of them
abbrev pub after_swap : Option Swap → List Team → List Team
after_swap None teams = teams
after_swap (Some s) teams =
    option_map_or (λ team. slice_set teams s.team (with_swap s team)) (slice_get teams s.team) teams

-- the teams, by number
abbrev pub teams : History → List Team
teams [] = []
teams (m ∷ h) =
    after_swap (replaces m.entry.act m.entry.reply) (teams h)
    ++ option_to_list (forms m.entry.act m.entry.reply)

-- the records, by number
abbrev pub records : History → List BegunRecord
records [] = []
records (m ∷ h) = records h ++ option_to_list (begins m.entry.act m.entry.reply)

-- the payload with which the record was begun
abbrev pub payload_of : History → ℕ → List ℕ
payload_of h rec = option_map_or (λ b. b.payload) (slice_get (records h) rec) []

-- the members of the team with a number
abbrev pub members_of : History → ℕ → List ProcId
members_of h team = option_map_or (λ t. t.members) (slice_get (teams h) team) []

-- the members of the record's team
abbrev pub members_for : History → ℕ → List ProcId
members_for h rec = option_map_or (λ b. members_of h b.team) (slice_get (records h) rec) []

-- what is written of a record: its payload beside it
abbrev pub written_item : History → Option ℕ → Option Item
written_item h write = option_map (λ rec. record { rec = rec; payload = payload_of h rec }) write

-- what has become of a write; a pending one has its number among the pending ones
pub data Fate : Type 0 where
  pending : ℕ → Fate
  durable : Fate
  lost : Fate

-- the write is neither synced nor lost
abbrev pub is_pending : Fate → Bool
is_pending (pending i) = true
is_pending _ = false

-- the write is synced
abbrev pub is_durable : Fate → Bool
is_durable durable = true
is_durable _ = false

-- the fate after an entry: one that closes settles a pending write, one that destroys loses all
abbrev pub fate_after : ℕ → Step → Fate → Fate
fate_after p m (pending i) =
    if closes p m then (if close_keeps p i m then durable else lost) else pending i
fate_after p m durable = if destroys m p then lost else durable
fate_after p m lost = lost

-- a write: what was written, and what has become of it
pub record Write : Type 0 where
  pub item : Item
  pub fate : Fate

-- a write with what becomes of it at the entry
abbrev pub write_after : ℕ → Step → Write → Write
write_after p m w = record w { fate = fate_after p m w.fate }

-- what was written by those of the writes whose fate passes
abbrev pub items_with : (Fate → Bool) → List Write → List Item
items_with test list = map (λ w. w.item) (filter (λ w. test w.fate) list)

-- the write of an item, pending behind so many others
abbrev pub new_write : ℕ → Item → Write
new_write count item = record { item = item; fate = pending count }

-- the writes to the process after one entry more, which may write an item
abbrev pub writes_after : ℕ → Step → Option Item → List Write → List Write
writes_after p m item before =
    map (write_after p m) before
    ++ option_to_list (option_map (new_write (length (items_with is_pending before))) item)

-- the writes to the process, in their order
abbrev pub writes_to : History → ℕ → List Write
writes_to [] p = []
writes_to (m ∷ h) p = writes_after p m (written_item h (writes m p)) (writes_to h p)

-- what the process has synced, in the order in which it was written
abbrev pub synced : History → ℕ → List Item
synced h p = items_with is_durable (writes_to h p)

-- what it has written and neither synced nor lost
abbrev pub unsynced : History → ℕ → List Item
unsynced h p = items_with is_pending (writes_to h p)

-- ---- the network

-- the messages, by number
abbrev pub sent : History → List Body
sent [] = []
sent (m ∷ h) = sent h ++ m.sends

-- some entry took the message out of the network
abbrev pub is_removed : History → ℕ → Bool
is_removed h n = list_any (λ m. m.removes n) h

-- the message was sent, and nothing took it out
abbrev pub in_flight : History → ℕ → Bool
in_flight h n = nat_lt n (length (sent h)) && not (is_removed h n)

-- how many messages are in flight
abbrev pub in_flight_count : History → ℕ
in_flight_count h = length (filter (in_flight h) (range_with_len 0 (length (sent h))))

-- the ticks that have passed
abbrev pub now : History → ℕ
now [] = 0
now (m ∷ h) = now h + unwrap_or (ticks m.entry.act m.entry.reply) 0

-- a clog of some ticks shortens no other, and lasts no longer than the clock
abbrev pub clog_end : (ticks time until : ℕ) → ℕ
clog_end ticks time until = max until (min (time + ticks) LAST_TICK)

-- an end of clogs ends them by now
abbrev pub unclog_end : (time until : ℕ) → ℕ
unclog_end time until = min until time

-- what the entry, made at a time, makes of the end of its targets' clogs
abbrev pub clog_end_by : Entry → (time until : ℕ) → ℕ
clog_end_by e time until =
    option_map_or (λ ticks. clog_end ticks time until)
    (clogs e.act e.reply)
    (if is_some (unclogs e.act e.reply) then unclog_end time until else until)

-- until when the clogs of the process last
abbrev pub clog_ends : History → ℕ → ℕ
clog_ends [] p = 0
clog_ends (m ∷ h) p =
    if m.targets p then clog_end_by m.entry (now h) (clog_ends h p) else clog_ends h p

-- the clogs of the process last longer than now
abbrev pub clogged : History → ProcessSet
clogged h p = nat_lt (now h) (clog_ends h p)

-- ---- marks

-- the record that a process says it has synced, and the process
abbrev pub ack_of : Body → Option (ℕ × ℕ)
ack_of (Store rec to) = None
ack_of (Synced rec from) = Some (rec, from.0)

-- the process that a message asks to store
abbrev pub stores_at : Body → Option ℕ
stores_at (Store rec to) = Some to.0
stores_at (Synced rec from) = None

-- the entry delivered a Synced of the record from the process
abbrev pub marks : Step → ℕ → ℕ → Bool
marks m r p =
    is_some (delivers m.entry.act m.entry.reply)
    && some_is (λ w. w.0 == r && w.1 == p) (option_and_then ack_of m.message)

-- the entry delivered a Synced of the record, whoever sent it
abbrev pub delivers_ack_of : Step → ℕ → Bool
delivers_ack_of m r =
    is_some (delivers m.entry.act m.entry.reply)
    && some_is (λ w. w.0 == r) (option_and_then ack_of m.message)

-- the process gets a mark, or it had one and isn't healed while the record is not acknowledged
abbrev pub marked_after : Step → (r p : ℕ) → (was_acked was_marked : Bool) → Bool
marked_after m r p was_acked was_marked =
    marks m r p || not (heals_at m p && not was_acked) && was_marked

-- who has a mark for a record, and whether the record is acknowledged
pub record RecordAcks : Type 0 where
  pub acks : ProcessSet
  pub acked : Bool

-- these after an entry: a Synced of the record acknowledges it where all members then have marks
abbrev pub acks_after : Step → (r : ℕ) → (members : List ProcId) → RecordAcks → RecordAcks
acks_after m r members was = record {
  acks = λ p. marked_after m r p was.acked (was.acks p);
  acked =
      was.acked
      || delivers_ack_of m r && list_all (λ p. marked_after m r p.0 was.acked (was.acks p.0)) members;
}

-- these of the record with a number
abbrev pub record_acks : History → ℕ → RecordAcks
record_acks [] r = record { acks = λ p. false; acked = false }
record_acks (m ∷ h) r = acks_after m r (members_for h r) (record_acks h r)

-- the process got a mark, after which it was not healed while the record wasn't acknowledged
abbrev pub marked : History → ℕ → ProcessSet
marked h r = (record_acks h r).acks

-- a Synced of the record was delivered after which every member of its team had a mark
abbrev pub acked : History → ℕ → Bool
acked h r = (record_acks h r).acked

-- the process has the record synced
abbrev pub has_synced : History → ℕ → ℕ → Bool
has_synced h r p = has_record (synced h p) r

-- the process isn't destroyed and has the record synced
abbrev pub keeps : History → ℕ → ProcessSet
keeps h r p = not (destroyed h p) && has_synced h r p

-- of an acknowledged record, the least member of its team that keeps it
abbrev pub keeper : Setup → History → ℕ → Option ProcId
keeper c h r =
    let least = least_with (length c.processes) (is_among (members_for h r)) (keeps h r) in
    if acked h r then option_map (λ p. record { 0 = p }) least else None

-- ---- a step from its entry

-- whom the act's target names
abbrev pub targets_of : Setup → History → Act → ProcessSet
targets_of c h (Kill order) = targets c.processes (left c h) order.target
targets_of c h (Clog target n) = targets c.processes (left c h) target
targets_of c h (Unclog target) = targets c.processes (left c h) target
targets_of c h _ = λ p. false

-- the message that the act names
abbrev pub message_of : History → Act → Option Body
message_of h (Deliver n) = slice_get (sent h) n
message_of h (Lose n) = slice_get (sent h) n
message_of h _ = None

-- the record of the acknowledgement in flight that the act would deliver
abbrev pub record_marked : History → Act → Option ℕ
record_marked h (Deliver n) =
    if in_flight h n
    then option_map (λ w. w.0) (option_and_then ack_of (message_of h (Deliver n))) else None
record_marked h _ = None

-- a store of the record to each of these processes
abbrev pub stores_of : ℕ → List ProcId → List Body
stores_of rec processes = map (λ p. Store rec p) processes

-- the process's word of each of these writes
abbrev pub acks_of : ProcId → List Item → List Body
acks_of process items = map (λ item. Synced item.rec process) items

-- what the act sends where it is accepted
abbrev pub sends_of : History → Act → List Body
sends_of h (Begin team payload) = stores_of (length (records h)) (members_of h team)
sends_of h (Resend rec process) = Store rec process ∷ []
sends_of h (CopyTo from rec to) = Store rec to ∷ []
sends_of h (Sync process) = acks_of process (unsynced h process.0)
sends_of h _ = []

-- which messages the act takes out of the network where it is accepted
abbrev pub removes_of : History → Act → ℕ → Bool
removes_of h (Deliver message) n = message == n
removes_of h (Lose message) n = message == n
removes_of h (Heal process) n = some_is (is_ack_from process.0) (slice_get (sent h) n)
removes_of h _ n = false

-- the entry with what it did, after this history
abbrev pub step_of : Setup → History → Entry → Step
step_of c h e = record {
  entry = e;
  targets = targets_of c h e.act;
  message = message_of h e.act;
  sends = if is_accepted e.reply then sends_of h e.act else [];
  removes = λ n. if is_accepted e.reply then removes_of h e.act n else false;
}

-- the history after the rest of a journal
abbrev pub after : Setup → History → List Entry → History
after c h [] = h
after c h (e ∷ later) = after c (step_of c h e ∷ h) later

-- the history of a journal
abbrev pub history : Setup → List Entry → History
history c journal = after c [] journal
