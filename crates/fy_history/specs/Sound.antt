-- what holds of each history that was read
use Rattle.std.specs.Prelude.{◌≡◌, ◌≢◌, ◌<◌, ◌≤◌, ℕ, List, length, Contains, Some, AllPairs}
use Rattle.fy_history.specs.Histories.{IsRead}
use Rattle.fy_history.specs.declared.history.Place.{Place}
use Rattle.fy_history.specs.declared.history.Write.{Write}
use Rattle.fy_history.specs.declared.history.Answer.TheVariants.{Value}
use Rattle.fy_history.specs.declared.history.Read.{Read}
use Rattle.fy_history.specs.declared.history.History.{History}
use Rattle.fy_history.specs.declared.progress.Known.{Known}

-- the line at which a write began
abbrev pub write_line : Write → ℕ
write_line write = write.began.line

-- the line at which a read began
abbrev pub read_line : Read → ℕ
read_line read = read.began.line

-- a write ended no earlier than it began, and its key and value are among so many texts
pub record IsSoundWrite (texts : ℕ) (write : Write) : Type 0 where
  pub ends : (end : Place) → write.ended ≡ Some end → write_line write ≤ end.line
  pub key : write.key < texts
  pub value : write.value < texts

-- a read ended no earlier than it began, and its key and what it found are among so many texts
pub record IsSoundRead (texts : ℕ) (read : Read) : Type 0 where
  pub ends : (end : Place) → read.ended ≡ Some end → read_line read ≤ end.line
  pub key : read.key < texts
  pub value : (v : ℕ) → read.answer ≡ Value v → v < texts

-- two writes don't give one value to one key
abbrev pub WriteApart : Write → Write → Type 0
WriteApart one other = one.key ≡ other.key → one.value ≡ other.value → ⊥

-- no text has two numbers; no operation ended before it began, and no two began at one line; no
-- value of a key was written twice
pub record IsSound (history : History) : Type 0 where
  pub apart : AllPairs (λ one other. one ≢ other) history.names
  pub each_write : (w : Write) → Contains history.writes.items w →
      IsSoundWrite (length history.names) w
  pub each_read : (r : Read) → Contains history.reads.items r →
      IsSoundRead (length history.names) r
  pub writes_rise : AllPairs (λ one later. write_line one < write_line later) history.writes.items
  pub reads_rise : AllPairs (λ one later. read_line one < read_line later) history.reads.items
  pub elsewhere : (w : Write) (r : Read) → Contains history.writes.items w →
      Contains history.reads.items r → write_line w ≡ read_line r → ⊥
  pub once : AllPairs WriteApart history.writes.items

-- LAW: so is each history that was read
abbrev pub ReadIsSound : Type 0
ReadIsSound = (known : Known) (bytes : List ℕ) (history : History) → IsRead known bytes history →
    IsSound history
