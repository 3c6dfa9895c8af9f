use Rattle.std.proofs.Common.{◌≡◌, ◌-◌, ◌+◌, length}
use Rattle.fy_picture.specs.Layouts.{HasRoom, laid_by}
use Rattle.fy_picture.specs.Recorded.{IsRecorded, columns_of}
use Rattle.fy_picture.specs.SoFar.{HaveEnded, with_room}
use Rattle.fy_picture.proofs.Laying.{listed}
use Rattle.fy_picture.proofs.recorded.Recorded.end_due.Given as goal

-- the columns so far are recorded, and nothing is entered
abbrev pub invariant-loop-self : goal.invariant-loop-self
invariant-loop-self l =
    IsRecorded l.self
    × (l.self.state ≡ l.fn.self.state)
    × (laid_by l.self.plan ≡ laid_by l.fn.self.plan)
    × HasRoom l.self.plan (length l.self.columns.items) l.self.entries
    × (l.self.entries ≡ l.fn.self.entries)
    × HaveEnded l.fn.self.entries (with_room l.fn.self.entries (columns_of l.fn.self)) (columns_of l.self)

abbrev pub decreases-loop-self : goal.decreases-loop-self
decreases-loop-self l = l.self.entries + listed l.self.plan - length l.self.columns.items
