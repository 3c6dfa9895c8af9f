-- the desk: the cluster, held by one actor at a time
use Rattle.std.specs.Prelude.{◌≡◌, ℕ, ◌==◌, List, [], ◌∷◌, ◌++◌, length, filter}
use Rattle.std.specs.List.{AllByRecursion}
use Rattle.fy_acts.specs.declared.act.Act.{Act}
use Rattle.fy_acts.specs.declared.reply.Reply.{Reply}
use Rattle.fy_acts.specs.declared.entry.Entry.{Entry}
use Rattle.fy_cluster.specs.Setup.{Setup}
use Rattle.fy_cluster.specs.Execution.{Execution, replied}

-- what a desk is seen as: what its cluster began with, the cluster's journal, who sits there, and
-- that actor's receipts
pub record DeskState : Type 0 where
  pub setup : Setup
  pub journal : List Entry
  pub actor : ℕ
  pub receipts : List Entry

-- the cluster of a desk
abbrev pub execution_of : DeskState → Execution
execution_of desk = record { setup = desk.setup; journal = desk.journal }

-- the desk of a cluster at which nobody sat yet
abbrev pub new_desk : Execution → DeskState
new_desk execution =
    record { setup = execution.setup; journal = execution.journal; actor = 0; receipts = [] }

-- the reply to an act of who sits there
abbrev pub desk_reply : DeskState → Act → Reply
desk_reply desk act = replied (execution_of desk) desk.actor act

-- the entry of an act
abbrev pub receipt : DeskState → Act → Entry
receipt desk act =
    record { at = length desk.journal; by = desk.actor; act = act; reply = desk_reply desk act }

-- the desk once an act is made: its entry is the last of the journal and of the receipts
abbrev pub after_act : DeskState → Act → DeskState
after_act desk act = record desk {
  journal = desk.journal ++ receipt desk act ∷ [];
  receipts = desk.receipts ++ receipt desk act ∷ [];
}

-- the entries of an actor, in order
abbrev pub entries_by : ℕ → List Entry → List Entry
entries_by actor entries = filter (λ e. e.by == actor) entries

-- all these are entries of one actor
abbrev pub OnlyBy : ℕ → List Entry → Type 0
OnlyBy actor entries = AllByRecursion (λ e. e.by ≡ actor) entries

-- the cluster has more entries of the desk's actor and of nobody else: they are its new receipts
pub record Worked (before after : DeskState) : Type 0 where
  pub setup : after.setup ≡ before.setup
  pub actor : after.actor ≡ before.actor
  pub new : List Entry
  pub journal : after.journal ≡ before.journal ++ new
  pub own : OnlyBy before.actor new
  pub receipts : after.receipts ≡ before.receipts ++ new
