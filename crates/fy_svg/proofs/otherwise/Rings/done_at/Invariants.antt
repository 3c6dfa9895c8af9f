use Rattle.std.proofs.Common.{◌-◌, length}
use Rattle.fy_svg.proofs.otherwise.Rings.done_at.Given as goal

abbrev pub decreases-loop-event : goal.decreases-loop-event
decreases-loop-event l = length l.self.events.items - l.self.passed
