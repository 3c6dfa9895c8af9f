use Rattle.std.proofs.Common.{◌≡◌, None, take}
use Rattle.fy_picture.specs.Recording.{HasRecorded}
use Rattle.fy_picture.proofs.picture.draw.Given as goal

-- the entries so far were recorded, and none is bad
abbrev pub invariant-loop-entry : goal.invariant-loop-entry
invariant-loop-entry l =
    HasRecorded l.config (take l.entry-index l.journal.entries) l.recorder
    × (l.recorder.first_bad ≡ None)
    × (l.recorder.columns.laid ≡ None)
    × (l.recorder.version ≡ l.journal.version)
