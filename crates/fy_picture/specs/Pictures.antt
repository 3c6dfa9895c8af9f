-- what a picture of a journal shows
use Rattle.std.specs.Prelude.{◌≡◌, ℕ, List, slice_get, Some}
use Rattle.fy_acts.specs.declared.entry.Entry.{Entry}
use Rattle.fy_cluster.specs.Setup.{Setup}
use Rattle.fy_picture.specs.declared.column.Column.{Column}
use Rattle.fy_picture.specs.declared.picture.Picture.{Picture}
use Rattle.fy_picture.specs.Columns.{IsColumn}
use Rattle.fy_picture.specs.Keeping.{AreKeepers, AreAckedAt}

-- each column shows the cluster in the history of all entries up to its end
abbrev pub ShowEnds : Setup → List Entry → List Column → Type 0
ShowEnds c journal columns =
    (k : ℕ) (column : Column) → slice_get columns k ≡ Some column → IsColumn c journal column

-- a picture of the journal: its columns, the keepers of its records and the entries that
-- acknowledged them
pub record IsPicture (c : Setup) (journal : List Entry) (picture : Picture) : Type 0 where
  pub columns : ShowEnds c journal picture.columns.items
  pub keepers : AreKeepers c journal picture.keepers.items
  pub acked : AreAckedAt c journal picture.acked_at.items
