use Rattle.std.proofs.Common.{◌≡◌, ◌≤◌, ◌+◌, ◌-◌, []}
use Rattle.fy_lines.specs.Windows.{ReadsOn}
use Rattle.fy_lines.proofs.windows.Window.drain.Given as goal

abbrev pub invariant-loop-self : goal.invariant-loop-self
invariant-loop-self g l =
    (l.self.held ≡ [])
    × (l.self.read ≤ l.limit)
    × ReadsOn l.fn.self l.self (g.R.Read.remaining l.fn.reader) (g.R.Read.remaining l.reader)

abbrev pub decreases-loop-self : goal.decreases-loop-self
decreases-loop-self g l = l.limit + 1 - l.self.read
