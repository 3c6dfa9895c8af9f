-- what a line comes to, and which bytes are told of it
use Rattle.std.specs.Prelude.{◌≡◌, ◌+◌, ◌++◌, ◌<◌, ◌≤◌, ℕ, List, length, drop, slice_get, Some}
use Rattle.fy_acts.specs.declared.entry.Entry.{Entry}
use Rattle.fy_audit.specs.AuditText.{entry_line}
use Rattle.fy_cluster.specs.Execution.{Execution}
use Rattle.fy_answers.specs.Answers.{HasNoAnswer, IsAnswered}
use Rattle.fy_answers.specs.declared.fault.AnswerFault.{AnswerFault}
use Rattle.fy_c.specs.Statuses.{answer_status}
use Rattle.fy_c.specs.declared.acting.TheConstants.{MOST_REPLY_BYTES}
use Rattle.fy_c.specs.declared.status.Status.{Status}
use Rattle.fy_c.specs.declared.status.Status.TheVariants.{Done, NoMemory, Short, Unwritten, NoEntry}

-- a line has no answer, for which there is so much room: that room couldn't be had, and the line
-- wasn't read; or the status of its fault
pub data IsUnanswered (old new : Execution) (line : List ℕ) (room : ℕ) : Status → Type 0 where
  no_room : new ≡ old → IsUnanswered old new line room NoMemory
  no_answer : (fault : AnswerFault) → HasNoAnswer old new line room fault →
      IsUnanswered old new line room (answer_status fault)

-- the text is written to the front of a buffer, whose other bytes stay, and its length is told
pub record Tells (before after : List ℕ) (told : ℕ) (text : List ℕ) : Type 0 where
  pub fits : length text ≤ length before
  pub count : told ≡ length text
  pub bytes : after ≡ text ++ drop (length text) before

-- the buffer is too short, and this many bytes are asked for
pub record IsShort (buffer : List ℕ) (asked told : ℕ) : Type 0 where
  pub asked_is : told ≡ asked
  pub short : length buffer < asked

-- how many bytes a buffer has to have for a line
abbrev pub room_for : List ℕ → ℕ
room_for line = length line + MOST_REPLY_BYTES

-- what a line came to. Where the buffer has too few bytes, nothing else is looked at. Else it came
-- to an answer that is told; to an answer that is longer than the buffer; or to none, for which
-- there was the room that the buffer has to have. But for an answer, what is told is how many bytes
-- the buffer has to have
pub data Acts (old new : Execution) (line before after : List ℕ) (told : ℕ) : Status → Type 0 where
  short : IsShort before (room_for line) told → new ≡ old → after ≡ before →
      Acts old new line before after told Short
  answered : room_for line ≤ length before → (text : List ℕ) → IsAnswered old new line text →
      Tells before after told text → Acts old new line before after told Done
  too_long : room_for line ≤ length before → (text : List ℕ) → IsAnswered old new line text →
      IsShort before (length text) told → after ≡ before →
      Acts old new line before after told Unwritten
  unanswered : room_for line ≤ length before → (status : Status) →
      IsUnanswered old new line (room_for line) status → after ≡ before → told ≡ room_for line →
      Acts old new line before after told status

-- the journal has an entry at this place, and this is its line
pub record HasLine (journal : List Entry) (at : ℕ) (line : List ℕ) : Type 0 where
  pub entry : Entry
  pub there : slice_get journal at ≡ Some entry
  pub line_is : line ≡ entry_line entry

-- why the line of an entry isn't had: there is no entry at this place; or there is, and an
-- allocation failed
pub data NotRead (journal : List Entry) (at : ℕ) : Status → Type 0 where
  no_entry : length journal ≤ at → NotRead journal at NoEntry
  no_memory : at < length journal → NotRead journal at NoMemory

-- the line of an entry is told, or why not: what was told before is then told still
pub data Reads (journal : List Entry) (at : ℕ) (before after : List ℕ) (was told : ℕ)
    : Status → Type 0 where
  read : (line : List ℕ) → HasLine journal at line → Tells before after told line →
      Reads journal at before after was told Done
  short : (line : List ℕ) → HasLine journal at line → IsShort before (length line) told →
      after ≡ before → Reads journal at before after was told Short
  not_read : (status : Status) → NotRead journal at status → after ≡ before → told ≡ was →
      Reads journal at before after was told status
