use Rattle.std.proofs.Common.{◌+◌, ◌*◌, length}
use Rattle.fy_policy.proofs.Readings.{PartsSoFar}
use Rattle.fy_policy.proofs.reading.+shapes.Given as goal

-- a shape's head is read before what is in it, and that before the rest: so the text left tells
-- them apart
abbrev pub decreases-read_shape : goal.decreases-read_shape
decreases-read_shape l = 2 * length l.text.now

abbrev pub decreases-read_across : goal.decreases-read_across
decreases-read_across l = 2 * length l.text.now + 1

abbrev pub decreases-read_and : goal.decreases-read_and
decreases-read_and l = 2 * length l.text.now + 1

abbrev pub invariant-read_and-loop-next : goal.invariant-read_and-loop-next
invariant-read_and-loop-next l = PartsSoFar l.text l.parts.items l.rest

abbrev pub decreases-read_and-loop-next : goal.decreases-read_and-loop-next
decreases-read_and-loop-next l = length l.rest
