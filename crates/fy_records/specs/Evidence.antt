-- who tells a record, who lacks it and whose disk has it
use Rattle.std.specs.Prelude.{◌≡◌, ℕ, ◌+◌, Bool, true, false, ◌&&◌, ◌==◌, List, Contains, Option, Some, None}
use Rattle.std.specs.List.{list_any}
use Rattle.std.specs.Option.{option_map_or}
use Rattle.fy_history.specs.declared.history.Place.{Place}
use Rattle.fy_history.specs.declared.history.Write.{Write}
use Rattle.fy_records.specs.declared.disks.Found.{Found}
use Rattle.fy_records.specs.declared.evidence.Lacker.{Lacker}
use Rattle.fy_records.specs.declared.seen.Seen.{Seen}
use Rattle.fy_records.specs.Founds.{has_value}
use Rattle.fy_records.specs.Lines.{Lines, some_read}
use Rattle.fy_records.specs.Reads.{Reads, process_of, is_at_end, tells}
use Rattle.fy_records.specs.Traces.{has}
use Rattle.fy_records.specs.Verdicts.{lacks_to_end}

-- a process is among these
abbrev pub is_among : List ℕ → (process : ℕ) → Bool
is_among nodes process = list_any (λ node. node == process) nodes

-- this process
abbrev pub is_node : (process : ℕ) → Option ℕ → Bool
is_node process None = false
is_node process (Some node) = node == process

-- a read at the end asked this process, and told the value
abbrev pub is_told_by : (written : Option Place) → (value process : ℕ) → Seen → Bool
is_told_by written value process seen =
    (process_of seen == process + 1) && is_at_end written seen && tells value seen

-- the disk of this process has a record of the value
abbrev pub is_held_by : (value process : ℕ) → Found → Bool
is_held_by value process found = has_value value found && (found.node == process)

-- these are the processes of which a read at the end told the record
abbrev pub AreTellers : Lines → Write → List ℕ → Type 0
AreTellers h write nodes =
    (process : ℕ) → is_among nodes process
    ≡ some_read h write.key (is_told_by h.written write.value process)

-- these are the processes whose disks have the record
abbrev pub AreHolders : Lines → Write → List ℕ → Type 0
AreHolders h write nodes =
    (process : ℕ) → is_among nodes process
    ≡ list_any (λ line. has write.key write.value line.trace && (line.node == process)) h.disks

-- the line of an answer: where the read ended, or where it began, if no line says that it did
abbrev pub answer_line : Seen → ℕ
answer_line seen = option_map_or (λ (p : Place). p.line) seen.read.ended seen.read.began.line

-- it is the process and the line of an answer
abbrev pub is_answer : Lacker → Seen → Bool
is_answer lacker seen =
    (process_of seen == lacker.node + 1) && (answer_line seen == lacker.line)

-- a process that counts as whole lacks the record to the end, as this answer shows
abbrev pub is_missing_by : Reads → (written : Option Place) → Seen → Bool
is_missing_by some written seen = lacks_to_end some written seen && seen.whole

-- a process is among those that lack the record
abbrev pub is_lacker : List Lacker → (process : ℕ) → Bool
is_lacker lackers process = list_any (λ lacker. lacker.node == process) lackers

-- the processes that count as whole and lack the record to the end, with the lines of the answers
-- that show it
pub record AreLackers (some : Reads) (written : Option Place) (lackers : List Lacker) : Type 0 where
  pub each : (lacker : Lacker) → Contains lackers lacker
      → some (λ seen. is_missing_by some written seen && is_answer lacker seen) ≡ true
  pub all : (process : ℕ) → is_lacker lackers process
      ≡ some (λ seen. is_missing_by some written seen && (process_of seen == process + 1))

-- it is the process and the line of an answer, if there is one
abbrev pub IsAnswer : Lacker → Option Seen → Type 0
IsAnswer lacker None = ⊥
IsAnswer lacker (Some seen) = is_answer lacker seen ≡ true

-- this process gave the answer, if there is one
abbrev pub is_answer_of : (process : ℕ) → Option Seen → Bool
is_answer_of process None = false
is_answer_of process (Some seen) = process_of seen == process + 1

-- it is this process
abbrev pub is_lacker_at : (process : ℕ) → Option Lacker → Bool
is_lacker_at process None = false
is_lacker_at process (Some lacker) = lacker.node == process
