use Rattle.std.proofs.Common.{◌≡◌, None, take}
use Rattle.fy_replay.specs.Replayed.{HasReplayed}
use Rattle.fy_replay.proofs.replaying.replay.Given as goal

-- the entries so far were replayed, and none is bad
abbrev pub invariant-loop-entry : goal.invariant-loop-entry
invariant-loop-entry l =
    HasReplayed l.config (take l.entry-index l.journal.entries) l.replayer
    × (l.replayer.first_bad ≡ None)
    × (l.replayer.version ≡ l.journal.version)
