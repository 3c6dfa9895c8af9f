-- what a read of a history says of its key
use Rattle.std.specs.Prelude.{ℕ, ◌+◌, Bool, true, false, not, ◌&&◌, ◌==◌, nat_lt, Option, Some, None, is_none}
use Rattle.fy_history.specs.declared.history.Answer.{Answer}
use Rattle.fy_history.specs.declared.history.Answer.TheVariants.{Unanswered, Nothing, Value}
use Rattle.fy_history.specs.declared.history.Place.{Place}
use Rattle.fy_records.specs.declared.seen.Seen.{Seen}
use Rattle.fy_records.specs.declared.seen.Test.{Test}
use Rattle.fy_records.specs.declared.seen.Test.TheVariants as test

-- whether some read of a key passes a test: all that a verdict asks of them
abbrev pub Reads : Type 0
Reads = (Seen → Bool) → Bool

-- an answer tells of the key
abbrev pub is_answer : Answer → Bool
is_answer Unanswered = false
is_answer Nothing = true
is_answer (Value told) = true

-- an answer says that the key has no value
abbrev pub is_nothing : Answer → Bool
is_nothing Unanswered = false
is_nothing Nothing = true
is_nothing (Value told) = false

-- an answer says that the key has this value
abbrev pub is_value : (value : ℕ) → Answer → Bool
is_value value Unanswered = false
is_value value Nothing = false
is_value value (Value told) = told == value

-- a read was answered
abbrev pub is_answered : Seen → Bool
is_answered seen = is_answer seen.read.answer

-- a read was told that the key has no value
abbrev pub lacks : Seen → Bool
lacks seen = is_nothing seen.read.answer

-- a read told that the key has this value
abbrev pub tells : (value : ℕ) → Seen → Bool
tells value seen = is_value value seen.read.answer

-- a read began behind a line
abbrev pub began_after : (line : ℕ) → Seen → Bool
began_after line seen = nat_lt line seen.read.began.line

-- a place stands before a line
abbrev pub is_before : (line : ℕ) → Option Place → Bool
is_before line None = false
is_before line (Some place) = nat_lt place.line line

-- a read ended before a line
abbrev pub ended_before : (line : ℕ) → Seen → Bool
ended_before line seen = is_before line seen.read.ended

-- a read at the end: it began behind the line of `written`, if there is one
abbrev pub is_at_end : (written : Option Place) → Seen → Bool
is_at_end None seen = false
is_at_end (Some place) seen = began_after place.line seen

-- a read asked the store as a whole
abbrev pub is_of_store : Seen → Bool
is_of_store seen = is_none seen.read.node

-- the number of a process, from 1 on; 0 for the store as a whole
abbrev pub process_number : Option ℕ → ℕ
process_number None = 0
process_number (Some node) = node + 1

-- the number of the process that a read asked
abbrev pub process_of : Seen → ℕ
process_of seen = process_number seen.read.node

-- two reads asked the same process
abbrev pub same_process : Seen → Seen → Bool
same_process a b = process_of a == process_of b

-- an answered read of the store as a whole that began behind a line
abbrev pub is_store_read : (line : ℕ) → Seen → Bool
is_store_read line seen = is_of_store seen && is_answered seen && began_after line seen

-- a read passes one of these tests
abbrev pub passes : Test → Seen → Bool
passes test.Lacks seen = lacks seen
passes (test.Tells value) seen = tells value seen
passes (test.StoreAfter line) seen = is_store_read line seen
passes (test.AnsweredAtEnd written) seen = is_answered seen && is_at_end written seen
passes (test.From line) seen = not (nat_lt seen.read.began.line line)
passes test.Whole seen = seen.whole
