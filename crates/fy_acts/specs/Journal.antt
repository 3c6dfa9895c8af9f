-- a journal as the list of its entries
use Rattle.std.specs.Prelude.{◌≡◌, ℕ, ◌+◌, ◌-◌, ◌≤◌, List, [], ◌∷◌, ◌++◌, length, slice_get, Some}
use Rattle.fy_acts.specs.declared.act.Act.{Act}
use Rattle.fy_acts.specs.declared.reply.Reply.{Reply}
use Rattle.fy_acts.specs.declared.entry.Entry.{Entry}
use Rattle.fy_acts.specs.declared.version.Version.{Version}
use Rattle.fy_acts.specs.declared.limits.TheConstants.{MOST_ENTRIES}

-- a journal: the version of its rules, its entries, the oldest first, and how many pushes are sure
-- to find room
pub record Log : Type 0 where
  pub version : Version
  pub entries : List Entry
  pub room : ℕ

-- a journal of a version in which nothing stands
abbrev pub empty_journal : Version → Log
empty_journal version = record { version = version; entries = []; room = 0 }

-- the journal with one entry more, which is numbered by its place and uses up one place of the room
abbrev pub entered : ℕ → Act → Reply → Log → Log
entered by act reply log =
    let entry : Entry = record { at = length log.entries; by = by; act = act; reply = reply } in
    record log { entries = log.entries ++ entry ∷ []; room = log.room - 1 }

-- each entry is numbered by its place, and with the room they are no more than may be
pub record IsLog (log : Log) : Type 0 where
  pub numbered : (place : ℕ) (entry : Entry) →
      slice_get log.entries place ≡ Some entry → entry.at ≡ place
  pub few : length log.entries + log.room ≤ MOST_ENTRIES
