use Rattle.std.proofs.Common.{◌≤◌, ◌+◌, ◌-◌}
use Rattle.fy_lines.specs.Windows.{Slides}
use Rattle.fy_lines.proofs.windows.Window.find_line.Given as goal

abbrev pub invariant-loop-line : goal.invariant-loop-line
invariant-loop-line g l =
    (l.self.read ≤ l.limit)
    × Slides l.fn.self l.self (g.R.Read.remaining l.fn.reader) (g.R.Read.remaining l.reader)

abbrev pub decreases-loop-line : goal.decreases-loop-line
decreases-loop-line g l = l.limit + 1 - l.self.read
