-- a replayer as its fields keep it
use Rattle.std.specs.Prelude.{◌≡◌, None}
use Rattle.fy_cluster.specs.Versions.{LegalUnder}
use Rattle.fy_replay.specs.Replayed.{Replayed}
use Rattle.fy_replay.specs.declared.replaying.Replayer.TheInside.{Inside}

-- what the fields say
abbrev pub replayed : Inside → Replayed
replayed replayer = record {
  version = replayer.version;
  execution = replayer.state;
  first_bad = replayer.first_bad;
}

-- while no entry is bad, the state's journal is legal under the version
abbrev pub IsSound : Inside → Type 0
IsSound replayer =
    replayer.first_bad ≡ None →
    LegalUnder replayer.version replayer.state.setup replayer.state.journal
