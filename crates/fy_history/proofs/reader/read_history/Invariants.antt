use Rattle.std.proofs.Common.{◌≤◌, ◌-◌, ◌+◌}
use Rattle.fy_history.proofs.Reading.{HasTaken}
use Rattle.fy_history.specs.Progress.{state_of}
use Rattle.fy_history.specs.declared.TheConstants.{MOST_HISTORY_LINES}
use Rattle.fy_history.proofs.reader.read_history.Given as goal

abbrev pub invariant-lines : goal.invariant-lines
invariant-lines g l =
    (l.progress.lines ≤ MOST_HISTORY_LINES)
    × HasTaken l.fn.known (g.R.Read.remaining l.fn.reader) (g.R.Read.remaining l.reader)
    (state_of l.progress)

abbrev pub decreases-lines : goal.decreases-lines
decreases-lines g l = (MOST_HISTORY_LINES + 1) - l.progress.lines
