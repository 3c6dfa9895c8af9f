-- what an act comes to, and what a program in C is told of it
use Rattle.std.specs.Prelude.{◌≡◌, ◌↔◌, ◌≤◌, ℕ, length, Result, Ok, Err, Some}
use Rattle.fy_acts.specs.declared.act.Act.{Act}
use Rattle.fy_acts.specs.declared.act.Act.TheVariants.{Heal}
use Rattle.fy_acts.specs.declared.reply.Refusal.TheVariants.{StillNeeds}
use Rattle.fy_acts.specs.declared.reply.Reply.{Reply}
use Rattle.fy_acts.specs.declared.reply.Reply.TheVariants.{No}
use Rattle.fy_cluster.specs.declared.fault.Fault.{Fault}
use Rattle.fy_cluster.specs.declared.fault.Fault.TheVariants as fault
use Rattle.fy_cluster.specs.Execution.{Execution, history_of, replied, entered}
use Rattle.fy_cluster.specs.Sights.{needed_of}
use Rattle.fy_cluster.specs.Survival.{Survives}
use Rattle.fy_c.specs.Numbers.{refusal_number}
use Rattle.fy_c.specs.Statuses.{number, entering_status}
use Rattle.fy_c.specs.declared.status.Status.{Status}
use Rattle.fy_c.specs.declared.status.Status.TheVariants.{Done, Refused}

-- the act is entered with its reply, and no acknowledged record is lost; or nothing changed, since
-- the journal is full or an allocation failed
abbrev pub Applies : Execution → Execution → ℕ → Act → Result Reply Fault → Type 0
Applies old new by act (Ok reply) =
    (new ≡ entered old by act) × (reply ≡ replied old by act) × Survives new.setup new.journal
Applies old new by act (Err why) =
    (new ≡ old) × ((old.setup.limit ≤ length old.journal) ↔ (why ≡ fault.JournalFull))

-- the status of an act
abbrev pub status_of : Result Reply Fault → Status
status_of (Ok (No refusal)) = Refused
status_of (Ok _) = Done
status_of (Err why) = entering_status why

-- why an act is refused, 0 where it isn't
abbrev pub refusal_of : Result Reply Fault → ℕ
refusal_of (Ok (No refusal)) = refusal_number refusal
refusal_of _ = 0

-- the act came to something, and that is what is told
pub record Enters (old new : Execution) (by : ℕ) (act : Act) (told refusal : ℕ) : Type 0 where
  pub answer : Result Reply Fault
  pub applies : Applies old new by act answer
  pub status : told ≡ number (status_of answer)
  pub why : refusal ≡ refusal_of answer

-- the heal of a process is refused for a record, and once that is entered the process still needs
-- this one
pub record IsMissing (old new : Execution) (by process : ℕ) : Type 0 where
  pub rec : ℕ
  pub named : replied old by (Heal (record { 0 = process })) ≡ No (StillNeeds rec)
  pub needed : needed_of new.setup (history_of new) process ≡ Some rec
