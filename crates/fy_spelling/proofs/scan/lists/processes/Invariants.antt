use Rattle.std.proofs.Common.{◌≡◌, ◌++◌, false}
use Rattle.fy_spelling.specs.Pieces.{processes_text}
use Rattle.fy_spelling.proofs.ScannedLists.{is_filled}
use Rattle.fy_spelling.proofs.scan.lists.processes.Given as goal

abbrev pub invariant-loop : goal.invariant-loop
invariant-loop l =
    (l.line ≡ processes_text false l.found.items ++ l.rest) × (l.later ≡ is_filled l.found.items)
