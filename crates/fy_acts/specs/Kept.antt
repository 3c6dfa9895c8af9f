-- a journal as its fields keep it
use Rattle.std.specs.Prelude.{◌≤◌, ◌+◌, vec_len}
use Rattle.std.specs.Vec.{vec_capacity}
use Rattle.fy_acts.specs.declared.journal.Journal.TheInside.{Inside}
use Rattle.fy_acts.specs.Journal.{Log, IsLog}

-- the journal that the fields stand for
abbrev pub log : Inside → Log
log journal = record {
  version = journal.version;
  entries = journal.entries.items;
  room = journal.room;
}

-- what always holds of the fields: they stand for a journal, and the room is memory that is there
abbrev pub JournalInvariant : Inside → Type 0
JournalInvariant journal =
    IsLog (log journal)
    × (vec_len journal.entries + journal.room ≤ vec_capacity journal.entries)
