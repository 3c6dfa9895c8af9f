use Rattle.std.proofs.Common.{◌≡◌, ◌+◌, ◌≤◌, ◌++◌, ℕ, List, length, map}
use Rattle.std.specs.Io.KnownBytes.{Appends}
use Rattle.fy_run.specs.RunTexts.{asked, made_by, lines_of_entries}
use Rattle.fy_run.proofs.run.answer_all.Given as goal

abbrev pub invariant-loop-command : goal.invariant-loop-command
invariant-loop-command g l =
    (length l.cluster.journal + length l.command-iterator.rest.items ≤ l.cluster.setup.limit)
    × ((done : List ℕ)
    × Appends (g.W.Write.contents l.fn.writer) (g.W.Write.contents l.writer) done
    × (l.fn.buffer ++ lines_of_entries (made_by l.fn.cluster (map asked l.fn.commands.items))
    ≡ done ++ (l.buffer
    ++ lines_of_entries (made_by l.cluster (map asked l.command-iterator.rest.items)))))
