use Rattle.std.proofs.Common.{◌≡◌, ◌≤◌, ◌+◌, ℕ, List, ◌++◌, length}
use Rattle.fy_lines.specs.Lines.{lines_of}
use Rattle.fy_audit.specs.Script.{AreCommands}
use Rattle.fy_audit.proofs.script.read_script.Given as goal

abbrev pub invariant-loop-rest : goal.invariant-loop-rest
invariant-loop-rest l =
    (l.number + length l.rest ≤ 16777216)
    × (done : List (List ℕ))
    × (lines_of l.bytes ≡ done ++ lines_of l.rest)
    × AreCommands done l.commands.items
    × (l.number ≡ length done)

abbrev pub decreases-loop-rest : goal.decreases-loop-rest
decreases-loop-rest l = length l.rest
