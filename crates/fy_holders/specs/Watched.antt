-- a journal that is watched while it is checked entry by entry
use Rattle.std.specs.Prelude.{◌≡◌, Bool, true, None}
use Rattle.fy_cluster.specs.Versions.{LegalUnder}
use Rattle.fy_replay.specs.Replayed.{Replayed}
use Rattle.fy_holders.specs.Noted.{AreNoted}
use Rattle.fy_holders.specs.declared.watch.Watch.TheInside.{Inside}

-- what was replayed, and whether no call failed midway
pub record Watched : Type 0 where
  pub replayed : Replayed
  pub is_whole : Bool

-- what the fields say
abbrev pub watched : Inside → Watched
watched watch = record { replayed = watch.replayer; is_whole = watch.is_whole }

-- the entries so far are a legal journal, of which all is noted
pub record IsNoted (watch : Inside) : Type 0 where
  pub legal : LegalUnder watch.replayer.version watch.replayer.execution.setup
      watch.replayer.execution.journal
  pub noted : AreNoted watch.replayer.execution.setup watch.replayer.execution.journal watch.end
      watch.turns.items watch.heals.items watch.answers.items

-- that, while no entry is bad, unless an allocation failed for one
abbrev pub IsSound : Inside → Type 0
IsSound watch = watch.is_whole ≡ true → watch.replayer.first_bad ≡ None → IsNoted watch
