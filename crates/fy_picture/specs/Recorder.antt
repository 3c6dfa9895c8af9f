-- a recorder as its fields keep it
use Rattle.std.specs.Prelude.{◌≡◌, None, true}
use Rattle.fy_cluster.specs.Versions.{LegalUnder}
use Rattle.fy_picture.specs.Recorded.{IsRecorded, columns_of}
use Rattle.fy_picture.specs.Recording.{Recording}
use Rattle.fy_picture.specs.declared.recorder.Recorder.TheInside.{Inside}

-- what the fields say
abbrev pub recording : Inside → Recording
recording recorder = record {
  version = recorder.replayer.version;
  execution = recorder.recorded.state;
  first_bad = recorder.replayer.first_bad;
  columns = columns_of recorder.recorded;
  is_whole = recorder.is_whole;
}

-- the good entries are a legal journal and recorded, and while no entry is bad, all are good
pub record IsSound (recorder : Inside) : Type 0 where
  pub recorded : IsRecorded recorder.recorded
  pub legal : LegalUnder recorder.replayer.version recorder.recorded.state.setup
      recorder.recorded.state.journal
  pub same : recorder.replayer.first_bad ≡ None →
      recorder.replayer.execution ≡ recorder.recorded.state

-- that, unless an allocation failed for an entry
abbrev pub IsSoundIfWhole : Inside → Type 0
IsSoundIfWhole recorder = recorder.is_whole ≡ true → IsSound recorder
