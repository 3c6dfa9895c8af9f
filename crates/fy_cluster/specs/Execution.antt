-- what a cluster is seen as, and what its calls make of it
use Rattle.std.specs.Prelude.{◌≡◌, ◌↔◌, ℕ, ◌<◌, ◌≤◌, List, [], ◌∷◌, ◌++◌, length, take}
use Rattle.fy_acts.specs.declared.act.Act.{Act}
use Rattle.fy_acts.specs.declared.reply.Reply.{Reply}
use Rattle.fy_acts.specs.declared.entry.Entry.{Entry}
use Rattle.fy_cluster.specs.declared.fault.Fault.{Fault}
use Rattle.fy_cluster.specs.declared.fault.Fault.TheVariants.{JournalFull}
use Rattle.fy_cluster.specs.Setup.{Setup}
use Rattle.fy_cluster.specs.History.{History, history}
use Rattle.fy_cluster.specs.Replies.{reply}

-- what a cluster is seen as: what it began with, and its journal
pub record Execution : Type 0 where
  pub setup : Setup
  pub journal : List Entry

-- what its entries have done
abbrev pub history_of : Execution → History
history_of execution = history execution.setup execution.journal

-- the execution before anything happened
abbrev pub opened : Setup → Execution
opened c = record { setup = c; journal = [] }

-- the reply to an act
abbrev pub replied : Execution → ℕ → Act → Reply
replied execution by act = reply execution.setup (history_of execution) by act

-- the entry that an act makes next
abbrev pub next_entry : Execution → ℕ → Act → Entry
next_entry execution by act = record {
  at = length execution.journal;
  by = by;
  act = act;
  reply = replied execution by act;
}

-- the execution once the act is entered with its reply
abbrev pub entered : Execution → ℕ → Act → Execution
entered execution by act =
    record execution { journal = execution.journal ++ next_entry execution by act ∷ [] }

-- the execution once these acts are entered, one after another
abbrev pub after_acts : Execution → List (ℕ × Act) → Execution
after_acts execution [] = execution
after_acts execution (asked ∷ rest) = after_acts (entered execution asked.0 asked.1) rest

-- acts that stopped at a fault: those before the place are entered, and the fault is a full journal
-- exactly where the journal is full
pub record StopsAt (before : Execution) (acts : List (ℕ × Act)) (fault : Fault)
    (after : Execution) : Type 0 where
  pub place : ℕ
  pub within : place < length acts
  pub same : after ≡ after_acts before (take place acts)
  pub full : (fault ≡ JournalFull) ↔ (after.setup.limit ≤ length after.journal)
