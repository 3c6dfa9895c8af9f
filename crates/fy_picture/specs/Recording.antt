-- a journal whose picture is recorded while it is checked entry by entry
use Rattle.std.specs.Prelude.{◌≡◌, ℕ, Bool, true, List, length, take, Option, None, unwrap_or}
use Rattle.fy_acts.specs.declared.entry.Entry.{Entry}
use Rattle.fy_acts.specs.declared.version.Version.{Version}
use Rattle.fy_cluster.specs.Setup.{Setup}
use Rattle.fy_cluster.specs.Execution.{Execution, opened}
use Rattle.fy_replay.specs.Replayed.{HasFirstBad}
use Rattle.fy_picture.specs.SoFar.{ColumnsSoFar, DueHaveEnded, no_columns, with_room}

-- the journal's version, the cluster with its good entries, its first bad entry, the columns so
-- far, and whether no call failed midway
pub record Recording : Type 0 where
  pub version : Version
  pub execution : Execution
  pub first_bad : Option ℕ
  pub columns : ColumnsSoFar
  pub is_whole : Bool

-- the recording before any entry, whose columns end as listed or are even
abbrev pub begun : Version → Setup → Option (List ℕ) → Recording
begun version setup laid = record {
  version = version;
  execution = opened setup;
  first_bad = None;
  columns = no_columns laid;
  is_whole = true;
}

-- these entries were checked, and those before the first bad one, or all, were recorded
pub record HasRecorded (setup : Setup) (entries : List Entry) (recording : Recording) : Type 0
  where
    pub first : HasFirstBad recording.version setup entries recording.first_bad
    pub execution : recording.execution ≡ record {
      setup = setup;
      journal = take (unwrap_or recording.first_bad (length entries)) entries;
    }

-- each two columns are one where there are as many as there may be and more entries, and nothing
-- else has changed
abbrev pub roomed : Recording → Recording
roomed recording = record recording {
  columns = with_room (length recording.execution.journal) recording.columns;
}

-- the columns that are due have ended, and nothing else has changed
pub record HasEndedDue (old new : Recording) : Type 0 where
  pub same : new ≡ record old { columns = new.columns }
  pub due : DueHaveEnded (length old.execution.journal) old.columns new.columns
