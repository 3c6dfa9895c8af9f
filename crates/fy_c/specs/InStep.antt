-- what was read of an audit, as its fields keep it
use Rattle.std.specs.Prelude.{◌≡◌, ◌≤◌, List, length}
use Rattle.fy_acts.specs.declared.entry.Entry.{Entry}
use Rattle.fy_cluster.specs.Setup.{Setup}
use Rattle.fy_replay.specs.Replayed.{HasReplayed}
use Rattle.fy_c.specs.Progress.{Progress}
use Rattle.fy_c.specs.declared.checking.Begun.TheInside.{Inside}

-- what the fields say
abbrev pub progress : Inside → Progress
progress begun =
    record { replayed = begun.replayer; count = begun.count; bytes = begun.bytes }

-- the entries that were counted are those that were replayed, and each has a byte at least
pub record IsInStep (begun : Inside) : Type 0 where
  pub setup : Setup
  pub entries : List Entry
  pub replayed : HasReplayed setup entries begun.replayer
  pub count : begun.count ≡ length entries
  pub few : begun.count ≤ begun.bytes
  pub version : begun.version ≡ begun.replayer.version
