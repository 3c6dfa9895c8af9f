-- what a seat's actor does while it has the desk
use Rattle.std.specs.Prelude.{◌≡◌, ◌↔◌, ◌≤◌, List, length, Result, Ok, Err}
use denote.Ref.{MutBor}
use denote.Param.Members.{Once}
use Rattle.fy_acts.specs.declared.act.Act.{Act}
use Rattle.fy_acts.specs.declared.entry.Entry.{Entry}
use Rattle.fy_cluster.specs.declared.fault.Fault.{Fault}
use Rattle.fy_cluster.specs.declared.fault.Fault.TheVariants.{JournalFull}
use Rattle.fy_actors.specs.Desk.{DeskState, entries_by, desk_reply, after_act, Worked}
use Rattle.fy_shared.specs.declared.yard.Receipt.{Receipt}
use Rattle.fy_shared.specs.Yard.{Yard, SeatState, StartsWith}

-- the desk at which the seat's actor sits, when the journal is this one
abbrev pub desk_of : Yard → SeatState → List Entry → DeskState
desk_of y s journal =
    record { setup = y.setup; journal = journal; actor = s.actor; receipts = s.receipts }

-- the seat had the desk, at a journal behind all that it had seen, in which its actor's entries
-- were its receipts. `Did` holds of that desk and of the one that it left, whose journal it has
-- seen
pub record AtDesk (y : Yard) (s t : SeatState) (Did : DeskState → DeskState → Type 0)
    : Type 0 where
  pub log : List Entry
  pub after : StartsWith log s.seen
  pub own : entries_by s.actor log ≡ s.receipts
  pub did : Did (desk_of y s log) (desk_of y t t.seen)

-- what a closure is that works at a desk for somebody
abbrev pub Work : (F A T : Type 0) → Type 1
Work F A T =
    Once F (MutBor A × (MutBor DeskState × Unit {0}))
    (T × (MutBor A × (MutBor DeskState × Unit {0})))

-- a call of it at this desk may give this answer, and leave that desk
pub record Does {F A T : Type 0} (work : Work F A T) (f : F) (who : A) (before : DeskState)
    (answer : T) (then : A) (after : DeskState) : Type 0 where
  pub for : MutBor A
  pub desk : MutBor DeskState
  pub for_is : for.now ≡ who
  pub desk_is : desk.now ≡ before
  pub left : MutBor A
  pub left_desk : MutBor DeskState
  pub left_is : left.now ≡ then
  pub left_desk_is : left_desk.now ≡ after
  pub met : work.post f (for, (desk, tt)) (answer, (left, (left_desk, tt)))

-- whatever it does at a desk is work
abbrev pub OnlyWorks : {F A T : Type 0} → Work F A T → F → Type 0
OnlyWorks {F} {A} {T} work f =
    (who then : A) (before after : DeskState) (answer : T)
    → Does work f who before answer then after → Worked before after

-- the act was made, and the receipt has its entry's place and reply; or nothing was done, with a
-- full journal as the fault exactly where it is full
abbrev pub MakesAct : DeskState → DeskState → Act → Result Receipt Fault → Type 0
MakesAct before after act (Ok receipt) =
    (after ≡ after_act before act)
    × (receipt ≡ record { at = length before.journal; reply = desk_reply before act })
MakesAct before after act (Err fault) =
    (after ≡ before)
    × ((fault ≡ JournalFull) ↔ (before.setup.limit ≤ length before.journal))
