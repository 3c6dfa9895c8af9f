-- where the entries of an audit fall in a history, and which processes count as whole there
use Rattle.std.specs.Prelude.{ℕ, ◌+◌, ◌<◌, ◌^◌, Bool, false, not, ◌&&◌, nat_lt, List, map, filter, find, Option, Some, None, option_map}
use Rattle.std.specs.List.{All, list_any}
use Rattle.std.specs.List.Sorted.{IsNonDecreasingBy}
use Rattle.std.specs.Option.{option_map_or}
use Rattle.fy_acts.specs.declared.entry.Entry.{Entry}
use Rattle.fy_cluster.specs.Setup.{Setup}
use Rattle.fy_history.specs.Progress.{last_of}
use Rattle.fy_history.specs.declared.history.EntryLine.{EntryLine}
use Rattle.fy_history.specs.declared.history.History.{History}
use Rattle.fy_history.specs.declared.history.Place.{Place}
use Rattle.fy_history.specs.declared.history.Read.{Read}
use Rattle.fy_holders.specs.Beyond.{is_beyond}
use Rattle.fy_holders.specs.Destroyed.{destroyed_at}
use Rattle.fy_holders.specs.declared.beyond.Note.{Note}

-- the line of an entry line
abbrev pub line_of : EntryLine → ℕ
line_of entry = entry.at.line

-- entry lines stand in the order of a history, each for one of so many entries, which a number of
-- 32 bits counts
pub record AreEntryLines (count : ℕ) (entries : List EntryLine) : Type 0 where
  pub order : IsNonDecreasingBy line_of entries
  pub within : All (λ entry. entry.entry < count) entries
  pub few : count < 2 ^ 32

-- an entry line stands before a line
abbrev pub is_before : (line : ℕ) → EntryLine → Bool
is_before line entry = nat_lt entry.at.line line

-- the position behind an entry line: how many entries are answered by then
abbrev pub position_behind : Option EntryLine → ℕ
position_behind None = 0
position_behind (Some entry) = entry.entry + 1

-- the position at a line: that behind the last entry line before it
abbrev pub position_at : List EntryLine → (line : ℕ) → ℕ
position_at entries line = position_behind (last_of (filter (is_before line) entries))

-- what an entry line says was done, where that isn't what the reply says
abbrev pub note_of : EntryLine → Option Note
note_of line = option_map (λ done. record { entry = line.entry; done = done }) line.does

-- an entry line says that a kill was done beyond the guard
abbrev pub is_beyond_guard : List Entry → EntryLine → Bool
is_beyond_guard journal line = option_map_or (is_beyond journal) (note_of line) false

-- the first entry line that says so
abbrev pub first_beyond : List Entry → List EntryLine → Option EntryLine
first_beyond journal entries = find (is_beyond_guard journal) entries

-- some entry line before a line says so
abbrev pub was_beyond : List Entry → List EntryLine → (line : ℕ) → Bool
was_beyond journal entries line =
    list_any (λ entry. is_beyond_guard journal entry && is_before line entry) entries

-- a process counts as whole at a line: nothing before was done beyond the guard, and the process
-- isn't destroyed at the position there
abbrev pub is_whole_at : Setup → List Entry → List EntryLine → (process line : ℕ) → Bool
is_whole_at c journal entries process line =
    not (was_beyond journal entries line)
    && not (destroyed_at c journal (position_at entries line) process)

-- a process counts as whole from one line to the place of its answer, if there are both
abbrev pub is_whole_from : Setup → List Entry → List EntryLine → Option ℕ → (line : ℕ) → Option Place → Bool
is_whole_from c journal entries (Some process) line (Some ended) =
    is_whole_at c journal entries process line
    && is_whole_at c journal entries process ended.line
is_whole_from c journal entries _ line _ = false

-- the process that a read asked counts as whole where it was asked and where it answered
abbrev pub is_whole : Setup → List Entry → List EntryLine → Read → Bool
is_whole c journal entries read =
    is_whole_from c journal entries read.node read.began.line read.ended

-- of each read of a history, whether its process does
abbrev pub wholes_of : Setup → List Entry → History → List Bool
wholes_of c journal history =
    map (is_whole c journal history.entries.items) history.reads.items
