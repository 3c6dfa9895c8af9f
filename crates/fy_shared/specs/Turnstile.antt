-- The rule of the turnstile, and what each step tells. Word 0 is how many entries the journal has,
-- word 1 the next ticket and word 2 the ticket that is served; the slot has the desk.
use Rattle.std.specs.Prelude.{◌≡◌, ◌≢◌, ℕ, ◌+◌, ◌-◌, ◌%◌, ◌^◌, ◌<◌, ◌≤◌, List, [], ◌∷◌, ◌++◌, length, Bool, true, false, Option, Some, None, if◌then◌else◌, nat_lt}
use mathlib.Core.Option.{none, some}
use mathlib.Core.Option as maybe
use lib.ListN.{get_elem?}
use Rattle.atomic_table.specs.Table.{State, Me, Step}
use Rattle.fy_acts.specs.declared.entry.Entry.{Entry}
use Rattle.fy_cluster.specs.Setup.{Setup}
use Rattle.fy_cluster.specs.Replies.{Legal}
use Rattle.fy_actors.specs.Desk.{DeskState, entries_by}
use Rattle.fy_shared.specs.declared.view.View.{View}
use Rattle.fy_shared.specs.Yard.{StartsWith, actor_count}

-- the desk of these parts
abbrev pub desk_with : Setup → List Entry → ℕ → List Entry → DeskState
desk_with setup journal actor receipts =
    record { setup = setup; journal = journal; actor = actor; receipts = receipts }

-- of a seat that was joined into another: its actor, its receipts and what it had seen
abbrev pub Joined : Type 0
Joined = ℕ × (List Entry × List Entry)

-- the numbers of all views, added up
abbrev pub total : (View → ℕ) → List View → ℕ
total f [] = 0
total f (v ∷ vs) = f v + total f vs

-- what stands behind words, slot and views: the journal, what the cluster began with, how many
-- actors there are and how many of them have seats, the ticket served and the next one, which view
-- makes seats, which has a ticket, which has an actor's receipts, and whether the desk is out; at
-- home it has the number and the receipts with which it was left
pub record TurnstileState : Type 0 where
  pub log : List Entry
  pub setup : Setup
  pub all : ℕ
  pub made : ℕ
  pub serving : ℕ
  pub next : ℕ
  pub opener : ℕ
  pub own : ℕ → ℕ
  pub who : ℕ → ℕ
  pub out : Bool
  pub home_actor : ℕ
  pub home_receipts : List Entry

-- the actors of joined seats
abbrev pub keys : List Joined → List ℕ
keys [] = []
keys (x ∷ xs) = x.0 ∷ keys xs

-- the number is none of these
abbrev pub NotAmong : ℕ → List ℕ → Type 0
NotAmong a [] = Unit {0}
NotAmong a (x ∷ xs) = (x ≢ a) × NotAmong a xs

-- no two of them are equal
abbrev pub Distinct : List ℕ → Type 0
Distinct [] = Unit {0}
Distinct (x ∷ xs) = NotAmong x xs × Distinct xs

-- tickets: one that was drawn is its seat's alone and isn't served yet; the seat that is served has
-- the desk and has seen all; and there are no more tickets than parts
abbrev pub TicketsFit : TurnstileState → ℕ → View → Type 0
TicketsFit p j v =
    (0 < v.waits → (p.own v.ticket ≡ j) × (p.serving ≤ v.ticket) × (v.ticket < p.next))
    × (v.holds ≡ true → (p.out ≡ true) × (0 < v.waits) × (v.ticket ≡ p.serving)
    × (v.seen ≡ p.log))
    × (v.waits ≤ v.parts)

-- receipts: a seat's are its actor's entries, in the journal and in what the seat has seen of it
abbrev pub ReceiptsFit : TurnstileState → ℕ → View → Type 0
ReceiptsFit p j v =
    (v.seated ≡ true → (v.live ≡ true) × (v.actor < p.made) × (p.who v.actor ≡ j)
    × (entries_by v.actor p.log ≡ v.mine))
    × (v.seated ≡ true → entries_by v.actor v.seen ≡ v.mine)

-- joined seats: the receipts kept of each are its actor's entries, and no actor is there twice
abbrev pub JoinedFit : TurnstileState → ℕ → View → Type 0
JoinedFit p j v =
    ((k : ℕ) (x : Joined) → get_elem? v.kept k ≡ some x → (x.0 < p.made) × (p.who x.0 ≡ j)
    × (entries_by x.0 p.log ≡ (x.1).0) × StartsWith p.log ((x.1).1))
    × Distinct (v.actor ∷ keys v.kept)

-- what the rule says of one view: it has seen a legal front of the journal and was told of one, it
-- makes seats only where it is the opener, and its tickets, receipts and joined seats fit
pub record Fits (p : TurnstileState) (j : ℕ) (v : View) : Type 0 where
  pub real : v.live ≡ true → (v.setup ≡ p.setup) × (v.all ≡ p.all)
  pub saw : StartsWith p.log v.seen
  pub told : StartsWith p.log v.told
  pub sound : Legal p.setup v.seen × Legal p.setup v.told
  pub opening : v.opens ≡ true → (p.opener ≡ j) × (v.made ≡ p.made)
  pub tickets : TicketsFit p j v
  pub receipts : ReceiptsFit p j v
  pub joined : JoinedFit p j v

-- some seat is served
abbrev pub Busy : List View → Type 0
Busy views = (j : ℕ) × (v : View) × (get_elem? views j ≡ some v) × (v.holds ≡ true)

-- the slot, where the desk is out or at home
abbrev pub slot_of : Bool → DeskState → maybe.Option (Option DeskState)
slot_of true b = none
slot_of false b = some (Some b)

-- the desk at home
abbrev pub desk_at_home : TurnstileState → DeskState
desk_at_home p = desk_with p.setup p.log p.home_actor p.home_receipts

-- the rule: the journal is legal, the words count it and the tickets, each view fits, who has no
-- seat yet has no entry, as many tickets are out as are wanted, and the desk is at home unless a
-- seat is served
pub record KeepsTurns (s : State (Option DeskState) View) : Type 0 where
  pub plan : TurnstileState
  pub legal : Legal plan.setup plan.log
  pub blank : Legal plan.setup []
  pub words : s.words
      ≡ length plan.log ∷ plan.next % 2 ^ 64 ∷ plan.serving % 2 ^ 64 ∷ []
  pub each : (j : ℕ) (v : View) → get_elem? s.views j ≡ some v → Fits plan j v
  pub unmade : (a : ℕ) → plan.made ≤ a → entries_by a plan.log ≡ []
  pub most : plan.made ≤ plan.all
  pub counted : plan.serving + total (λ v. v.waits) s.views ≡ plan.next
  pub parts : total (λ v. v.parts) s.views ≡ plan.all
  pub few : plan.all < 2 ^ 64
  pub home : s.homes ≡ slot_of plan.out (desk_at_home plan) ∷ []
  pub busy : plan.out ≡ true → Busy s.views

-- a view with the slots that its seat has
abbrev pub SeatView : Type 0
SeatView = Me (Option DeskState) View

-- a step
abbrev pub TableStep : Type 0
TableStep = Step (Option DeskState)

-- a new seat with some parts
abbrev pub seat_of : Setup → ℕ → ℕ → Bool → ℕ → View
seat_of setup all parts opens actor =
    record {
      live = true;
      setup = setup;
      all = all;
      parts = parts;
      opens = opens;
      made = 1;
      seated = true;
      actor = actor;
      waits = 0;
      ticket = 0;
      holds = false;
      seen = [];
      told = [];
      mine = [];
      kept = [];
    }

-- the first seat, which makes the others
abbrev pub first_view : Setup → View
first_view setup = seat_of setup (actor_count setup) (actor_count setup) true 0

-- the seat has a ticket
abbrev pub with_ticket : View → ℕ → View
with_ticket v ticket = record v { waits = 1; ticket = ticket }

-- the seat is served, and has seen this journal
abbrev pub serving_at : View → List Entry → View
serving_at v journal = record v { holds = true; seen = journal }

-- the seat has seen all of this journal
abbrev pub after_count : View → List Entry → View
after_count v journal = record v { seen = journal; mine = entries_by v.actor journal }

-- the seat has had its turn
abbrev pub without_ticket : View → View
without_ticket v = record v { waits = 0; holds = false }

-- the seat has made another
abbrev pub after_split : View → View
after_split v = record v { parts = v.parts - 1; made = v.made + 1 }

-- the seat that it makes
abbrev pub next_seat : View → View
next_seat v = seat_of v.setup v.all 1 false v.made

-- a view that is no seat's
abbrev pub seatless : Setup → ℕ → Bool → List Entry → View
seatless setup all live seen =
    record {
      live = live;
      setup = setup;
      all = all;
      parts = 0;
      opens = false;
      made = 0;
      seated = false;
      actor = 0;
      waits = 0;
      ticket = 0;
      holds = false;
      seen = seen;
      told = [];
      mine = [];
      kept = [];
    }

-- a copy of what was seen
abbrev pub note_of : View → View
note_of v = seatless v.setup v.all true v.seen

-- what no cluster begins with
abbrev pub no_setup : Setup
no_setup =
    record {
      processes = [];
      policies = [];
      roles = [];
      grants = [];
      protections = [];
      limit = 0;
    }

-- the view of a seat that was joined into another
abbrev pub spent_view : View
spent_view = seatless no_setup 0 false []

-- the first has been told what the second has seen
abbrev pub told_by : View → View → View
told_by v w = record v { told = w.seen }

-- what is kept of a seat that is joined
abbrev pub key_of : View → Joined
key_of v = (v.actor, (v.mine, v.seen))

-- the second was joined into the first
abbrev pub joined_by : View → View → View
joined_by v w = record v { parts = v.parts + w.parts; kept = v.kept ++ key_of w ∷ [] }

-- the longer of two
abbrev pub longer : List Entry → List Entry → List Entry
longer xs ys = if nat_lt (length xs) (length ys) then ys else xs

-- the seat has seen the longer of what it had seen and what it was told
abbrev pub after_meeting : View → View
after_meeting v = record v { seen = longer v.seen v.told; told = [] }

-- the journal of a desk
abbrev pub journal_of : Option DeskState → List Entry
journal_of None = []
journal_of (Some b) = b.journal

-- the journal of the desk in hand
abbrev pub journal_in : List (ℕ × Option DeskState) → List Entry
journal_in [] = []
journal_in (x ∷ xs) = journal_of x.1

-- a ticket was drawn: the number found, but for 2^64
abbrev pub Drawn : TableStep → SeatView → ℕ → SeatView → Type 0
Drawn st m n m' = (t : ℕ) × (n ≡ t % 2 ^ 64) × (m' ≡ (with_ticket m.0 t, m.1))

-- the desk came with a legal journal that begins with all that was seen, and its entries of the
-- actor are the receipts
pub record Took (m m' : SeatView) (desk : DeskState) : Type 0 where
  pub now : m' ≡ (serving_at m.0 desk.journal, (0, Some desk) ∷ m.1)
  pub setup : desk.setup ≡ m.0.setup
  pub after : StartsWith desk.journal m.0.seen
  pub legal : Legal m.0.setup desk.journal
  pub own : entries_by m.0.actor desk.journal ≡ m.0.mine

-- where the ticket served is the seat's, the desk came; else nothing changed
abbrev pub Looks : SeatView → ℕ → SeatView → Type 0
Looks m n m' =
    (n ≡ m.0.ticket % 2 ^ 64 → (desk : DeskState) × Took m m' desk)
    × (n ≢ m.0.ticket % 2 ^ 64 → m' ≡ m)

-- what a look at the ticket served tells, whatever the table was
abbrev pub Looked : TableStep → SeatView → ℕ → SeatView → Type 0
Looked st m n m' = Looks m n m'

-- the journal of the desk in hand was counted, and seen
abbrev pub Counted : TableStep → SeatView → ℕ → SeatView → Type 0
Counted st m n m' = m' ≡ (after_count m.0 (journal_in m.1), m.1)

-- the seat has had its turn, and the desk is gone
abbrev pub Advanced : TableStep → SeatView → ℕ → SeatView → Type 0
Advanced st m n m' = m' ≡ (without_ticket m.0, [])

-- the longer of what was seen and what was told was seen: a legal journal that begins with both, in
-- which the actor's entries are the receipts
pub record Met (st : TableStep) (m : SeatView) (n : ℕ) (m' : SeatView) : Type 0 where
  pub now : m' ≡ (after_meeting m.0, m.1)
  pub seen : StartsWith m'.0.seen m.0.seen
  pub told : StartsWith m'.0.seen m.0.told
  pub legal : Legal m.0.setup m'.0.seen
  pub own : entries_by m.0.actor m'.0.seen ≡ m.0.mine
