use Rattle.std.proofs.Common.{◌≡◌, None, [], take}
use Rattle.fy_cluster.specs.Setup.{Setup}
use Rattle.fy_picture.specs.Recording.{HasRecorded}
use Rattle.fy_svg.proofs.drawing.Drawing.enter_all.Given as goal

-- the entries so far were recorded, and none is bad
abbrev pub invariant-loop-entry : goal.invariant-loop-entry
invariant-loop-entry l =
    ((setup : Setup) → HasRecorded setup [] l.fn.self → HasRecorded setup (take l.entry-index l.journal.entries) l.self)
    × (l.self.first_bad ≡ None)
    × (l.self.version ≡ l.fn.self.version)
    × (l.self.columns.laid ≡ l.fn.self.columns.laid)
