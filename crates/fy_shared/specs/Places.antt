-- what the steps of a place at the turnstile ask for and leave
use Rattle.std.specs.Prelude.{◌≡◌, ℕ, ◌<◌, ◌%◌, ◌^◌, List, [], ◌∷◌, ◌++◌, length, map, true, false, Option, Some, None}
use Rattle.atomic_table.specs.Seated.{TableId}
use Rattle.atomic_table.specs.declared.shared.Seat.{Seat as Place}
use Rattle.fy_acts.specs.declared.entry.Entry.{Entry}
use Rattle.fy_cluster.specs.Replies.{Legal}
use Rattle.fy_actors.specs.Desk.{DeskState, entries_by, OnlyBy}
use Rattle.fy_shared.specs.declared.view.View.{View}
use Rattle.fy_shared.specs.Yard.{Yard, SeatState, actor_count, StartsWith}
use Rattle.fy_shared.specs.Turnstile.{SeatView, Joined}

-- a table of three words and one slot
abbrev pub IsTurnstile : TableId → Type 0
IsTurnstile id = (id.words ≡ 3) × (id.slots ≡ 1)

-- what a seat is seen as: its actor, its receipts, and its place while it has one
abbrev pub seat_state : ℕ → List Entry → Option (Place (Option DeskState) View) → SeatState
seat_state actor receipts None =
    record { of = None; actor = actor; receipts = receipts; seen = [] }
seat_state actor receipts (Some place) =
    record {
      of = Some (record { id = place.table_id; setup = place.me.0.setup });
      actor = actor;
      receipts = receipts;
      seen = place.me.0.seen;
    }

-- a seat that has no ticket
pub record HasNoTicket (m : SeatView) : Type 0 where
  pub empty : m.1 ≡ []
  pub waits : m.0.waits ≡ 0
  pub holds : m.0.holds ≡ false
  pub seated : m.0.seated ≡ true
  pub parts : m.0.parts ≡ 1
  pub live : m.0.live ≡ true
  pub kept : m.0.kept ≡ []
  pub told : m.0.told ≡ []

-- the place of this actor's seat, with these receipts
pub record IsPlaceOf (a : ℕ) (rs : List Entry) (place : Place (Option DeskState) View)
    : Type 0 where
  pub calm : HasNoTicket place.me
  pub actor : place.me.0.actor ≡ a
  pub mine : place.me.0.mine ≡ rs
  pub all : place.me.0.all ≡ actor_count place.me.0.setup

-- a seat has such a place, if any
abbrev pub IsSeat : ℕ → List Entry → Option (Place (Option DeskState) View) → Type 0
IsSeat actor receipts None = Unit {0}
IsSeat actor receipts (Some place) = IsPlaceOf actor receipts place

-- a seat that has others to make
pub record IsOpener (m : SeatView) : Type 0 where
  pub empty : m.1 ≡ []
  pub opens : m.0.opens ≡ true
  pub live : m.0.live ≡ true
  pub waits : m.0.waits ≡ 0
  pub parts : 0 < m.0.parts
  pub holds : m.0.holds ≡ false
  pub seated : m.0.seated ≡ true
  pub kept : m.0.kept ≡ []
  pub more : m.0.made < m.0.all

-- a seat that waits with this ticket
pub record IsWaiting (m : SeatView) (n : ℕ) : Type 0 where
  pub empty : m.1 ≡ []
  pub waits : m.0.waits ≡ 1
  pub holds : m.0.holds ≡ false
  pub seated : m.0.seated ≡ true
  pub live : m.0.live ≡ true
  pub kept : m.0.kept ≡ []
  pub ticket : n ≡ m.0.ticket % 2 ^ 64

-- at most the ticket, what was seen, the receipts and whether it is served differ
pub record IsSameActor (v w : View) : Type 0 where
  pub setup : w.setup ≡ v.setup
  pub all : w.all ≡ v.all
  pub parts : w.parts ≡ v.parts
  pub seated : w.seated ≡ v.seated
  pub actor : w.actor ≡ v.actor
  pub live : w.live ≡ v.live
  pub kept : w.kept ≡ v.kept
  pub opens : w.opens ≡ v.opens
  pub made : w.made ≡ v.made
  pub told : w.told ≡ v.told

-- a seat has drawn this ticket
pub record DrewTicket (m m' : SeatView) (n : ℕ) : Type 0 where
  pub waiting : IsWaiting m' n
  pub same : IsSameActor m.0 m'.0
  pub seen : m'.0.seen ≡ m.0.seen
  pub mine : m'.0.mine ≡ m.0.mine

-- it is the seat's turn, and the desk is out of its slot: a legal journal that begins with all that
-- the seat had seen, in which its actor's entries are its receipts
pub record IsServed (v : View) (m : SeatView) (desk : DeskState) : Type 0 where
  pub slot : m.1 ≡ (0, None) ∷ []
  pub waits : m.0.waits ≡ 1
  pub holds : m.0.holds ≡ true
  pub seen : m.0.seen ≡ desk.journal
  pub same : IsSameActor v m.0
  pub mine : m.0.mine ≡ v.mine
  pub setup : desk.setup ≡ v.setup
  pub after : StartsWith desk.journal v.seen
  pub legal : Legal v.setup desk.journal
  pub own : entries_by v.actor desk.journal ≡ v.mine

-- it is the seat's turn, and the desk is out of its slot
pub record HoldsDesk (m : SeatView) : Type 0 where
  pub slot : m.1 ≡ (0, None) ∷ []
  pub waits : m.0.waits ≡ 1
  pub holds : m.0.holds ≡ true
  pub seated : m.0.seated ≡ true
  pub live : m.0.live ≡ true
  pub kept : m.0.kept ≡ []

-- the desk comes back with more entries, of the seat's actor alone
pub record IsGrown (v : View) (desk : DeskState) : Type 0 where
  pub setup : desk.setup ≡ v.setup
  pub new : List Entry
  pub journal : desk.journal ≡ v.seen ++ new
  pub own : OnlyBy v.actor new

-- what is kept of a seat that is joined into another
abbrev pub key_of_seat : SeatState → Joined
key_of_seat s = (s.actor, (s.receipts, s.seen))

-- a place into which all these seats were joined, the first being its own
pub record Gathered (y : Yard) (seats : List SeatState) (m : SeatView) : Type 0 where
  pub empty : m.1 ≡ []
  pub first : SeatState
  pub rest : List SeatState
  pub are : seats ≡ first ∷ rest
  pub setup : m.0.setup ≡ y.setup
  pub all : m.0.all ≡ actor_count y.setup
  pub seated : m.0.seated ≡ true
  pub holds : m.0.holds ≡ false
  pub actor : m.0.actor ≡ first.actor
  pub mine : m.0.mine ≡ first.receipts
  pub seen : m.0.seen ≡ first.seen
  pub parts : m.0.parts ≡ length seats
  pub kept : m.0.kept ≡ map key_of_seat rest
