use Rattle.std.proofs.Common.{◌≡◌, ◌≤◌, ◌+◌, ℕ, List, ◌++◌, length, None}
use Rattle.fy_lines.specs.Lines.{lines_of}
use Rattle.fy_events.specs.Events.{AreEvents, Rises, last_of}
use Rattle.fy_events.proofs.events.read_events.Given as goal

abbrev pub invariant-loop-rest : goal.invariant-loop-rest
invariant-loop-rest l =
    (l.number + length l.rest ≤ 268435456)
    × (done : List (List ℕ))
    × (lines_of l.bytes ≡ done ++ lines_of l.rest)
    × AreEvents l.count done l.events.items l.last
    × (l.number ≡ length done)
    × (last_of None l.events.items ≡ l.last)
    × Rises l.count None l.events.items

abbrev pub decreases-loop-rest : goal.decreases-loop-rest
decreases-loop-rest l = length l.rest
