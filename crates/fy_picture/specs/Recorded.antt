-- what a recorder keeps of the good entries
use Rattle.std.specs.Prelude.{◌≡◌, ◌≤◌, ◌++◌, ◌∷◌, [], ℕ, List, Some, length, slice_get, take}
use Rattle.fy_acts.specs.declared.entry.Entry.{Entry}
use Rattle.fy_cluster.specs.Setup.{Setup}
use Rattle.fy_cluster.specs.Execution.{history_of}
use Rattle.fy_cluster.specs.History.{history}
use Rattle.fy_picture.specs.declared.column.Column.{Column}
use Rattle.fy_picture.specs.declared.recorded.Recorded.{Recorded}
use Rattle.fy_picture.specs.Keeping.{AreAckedAt}
use Rattle.fy_picture.specs.Columns.{AreStates}
use Rattle.fy_picture.specs.Layouts.{AreSoFar}
use Rattle.fy_picture.specs.SoFar.{ColumnsSoFar, columns_in}

-- the columns as a caller sees them
abbrev pub columns_of : Recorded → ColumnsSoFar
columns_of recorded = columns_in recorded.plan recorded.columns.items

-- the column's processes are those in the history of all entries up to its end
pub record ShowsStates (c : Setup) (journal : List Entry) (column : Column) : Type 0 where
  pub end : column.end ≤ length journal
  pub states : AreStates c (history c (take column.end journal)) column.states

-- so do all columns
abbrev pub ShowStates : Setup → List Entry → List Column → Type 0
ShowStates c journal columns =
    (k : ℕ) (column : Column) → slice_get columns k ≡ Some column → ShowsStates c journal column

-- the columns show the processes and end where they are to end; the entries that acknowledged
-- records are noted
pub record IsRecorded (recorded : Recorded) : Type 0 where
  pub count : recorded.entries ≡ length recorded.state.journal
  pub columns : ShowStates recorded.state.setup recorded.state.journal recorded.columns.items
  pub laid : AreSoFar recorded.plan (length recorded.state.journal) recorded.columns.items
  pub acked : AreAckedAt recorded.state.setup recorded.state.journal recorded.acked_at.items

-- nothing is entered, and the columns end where they did
pub record IsSameBut (old new : Recorded) : Type 0 where
  pub state : new.state ≡ old.state
  pub plan : new.plan ≡ old.plan
  pub entries : new.entries ≡ old.entries
  pub acked : new.acked_at.items ≡ old.acked_at.items

-- a column more is recorded, at the end of the entries so far
pub record EndsColumn (old new : Recorded) : Type 0 where
  pub same : IsSameBut old new
  pub column : Column
  pub more : new.columns.items ≡ old.columns.items ++ column ∷ []
  pub end : column.end ≡ old.entries
  pub states : AreStates old.state.setup (history_of old.state) column.states
