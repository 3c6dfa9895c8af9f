-- what callers see of a shared cluster and its seats
use Rattle.std.specs.Prelude.{◌≡◌, ◌≢◌, ◌⊎◌, ℕ, ◌<◌, ◌≤◌, List, [], ◌∷◌, ◌++◌, length, map, sum_by, All, Contains, Option, Some, None}
use Rattle.std.specs.List.{range_with_len}
use Rattle.atomic_table.specs.Seated.{TableId}
use Rattle.fy_acts.specs.declared.act.Act.{Act}
use Rattle.fy_acts.specs.declared.reply.Reply.{Reply}
use Rattle.fy_acts.specs.declared.entry.Entry.{Entry}
use Rattle.fy_cluster.specs.Setup.{Setup}
use Rattle.fy_cluster.specs.Execution.{Execution}
use Rattle.fy_cluster.specs.Survival.{Survives}
use Rattle.fy_actors.specs.Desk.{entries_by, OnlyBy}

-- a shared cluster: which one it is, and what it began with
pub record Yard : Type 0 where
  pub id : TableId
  pub setup : Setup

-- a seat: at which shared cluster, or at none once that is closed; its actor, its receipts, and the
-- journal as far as the seat has seen it
pub record SeatState : Type 0 where
  pub of : Option Yard
  pub actor : ℕ
  pub receipts : List Entry
  pub seen : List Entry

-- how many actors there are
abbrev pub actor_count : Setup → ℕ
actor_count c = length c.roles

-- the entry of an act
abbrev pub entry : ℕ → ℕ → Act → Reply → Entry
entry at by act reply = record { at = at; by = by; act = act; reply = reply }

-- the first begins with the second
abbrev pub StartsWith : List Entry → List Entry → Type 0
StartsWith long front = (rest : List Entry) × (long ≡ front ++ rest)

-- the seat of the same actor at the same cluster
abbrev pub IsSameSeat : SeatState → SeatState → Type 0
IsSameSeat s t = (t.of ≡ s.of) × (t.actor ≡ s.actor)

-- that seat, with the same receipts
abbrev pub KeepsReceipts : SeatState → SeatState → Type 0
KeepsReceipts s t = IsSameSeat s t × (t.receipts ≡ s.receipts)

-- the journal then seen is legal and keeps what every legal journal keeps: each acknowledged record
-- has a synced copy on an undestroyed member, and so on; it begins with all that had been seen, and
-- its entries of the actor are the receipts
pub record SeesMore (y : Yard) (s t : SeatState) : Type 0 where
  pub survives : Survives y.setup t.seen
  pub before : StartsWith t.seen s.seen
  pub own : entries_by t.actor t.seen ≡ t.receipts

-- the journal then seen ends with the entry of this act, behind all that had been seen, and the
-- entry is the next receipt
pub record EndsWithAct (s t : SeatState) (act : Act) (at : ℕ) (reply : Reply) : Type 0 where
  pub log : List Entry
  pub last : t.seen ≡ log ++ entry at s.actor act reply ∷ []
  pub place : at ≡ length log
  pub after : StartsWith log s.seen
  pub receipts : t.receipts ≡ s.receipts ++ entry at s.actor act reply ∷ []

-- the journal then seen ends with entries of the actor, if any, behind all that had been seen, and
-- they are the next receipts
pub record Turned (s t : SeatState) : Type 0 where
  pub log : List Entry
  pub new : List Entry
  pub last : t.seen ≡ log ++ new
  pub after : StartsWith log s.seen
  pub only : OnlyBy s.actor new
  pub receipts : t.receipts ≡ s.receipts ++ new

-- two seats have then seen one journal, which one of them had seen
pub record Together (s t s' t' : SeatState) : Type 0 where
  pub same : s'.seen ≡ t'.seen
  pub longer : (s'.seen ≡ s.seen) ⊎ (s'.seen ≡ t.seen)

-- a seat that has done and seen nothing
abbrev pub new_seat : Yard → ℕ → SeatState
new_seat y actor = record { of = Some y; actor = actor; receipts = []; seen = [] }

-- so many new seats, by number, from this actor's on
abbrev pub new_seats : Yard → ℕ → ℕ → List SeatState
new_seats y actor n = map (new_seat y) (range_with_len actor n)

-- whose seats these are
abbrev pub actors : List SeatState → List ℕ
actors seats = map (λ s. s.actor) seats

-- the seat of one of so many actors isn't among these
abbrev pub Missing : ℕ → List SeatState → Type 0
Missing n seats = (a : ℕ) × (a < n) × All (λ s. s.actor ≢ a) seats

-- what is left of a seat that was handed in
abbrev pub closed_seat : SeatState → SeatState
closed_seat s = record { of = None; actor = s.actor; receipts = s.receipts; seen = [] }

-- the journal begins with what the seat had seen, and its entries of the actor are the receipts
abbrev pub IsJournalOf : List Entry → SeatState → Type 0
IsJournalOf journal s = StartsWith journal s.seen × (entries_by s.actor journal ≡ s.receipts)

-- a shared cluster that is closed: the journal keeps what every legal journal keeps, is that of
-- each seat handed in, and has no entry of anybody else. Each actor has one of these seats, there
-- are no more, and all receipts together are as many as the entries
pub record Settled (y : Yard) (seats : List SeatState) (r : Execution) (now : List SeatState)
    : Type 0 where
  pub setup : r.setup ≡ y.setup
  pub survives : Survives y.setup r.journal
  pub each : All (IsJournalOf r.journal) seats
  pub whole : (a : ℕ) → a < actor_count y.setup → Contains (actors seats) a
  pub count : length seats ≡ actor_count y.setup
  pub strangers : (a : ℕ) → actor_count y.setup ≤ a → entries_by a r.journal ≡ []
  pub entries : sum_by (λ s. length s.receipts) seats ≡ length r.journal
  pub left : now ≡ map closed_seat seats
