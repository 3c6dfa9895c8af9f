use Rattle.std.proofs.Common.{◌≡◌, ◌++◌}
use Rattle.fy_asking.specs.ToldTexts.{process_text}
use Rattle.fy_asking.specs.ToldPieces.{counted_text}
use Rattle.fy_asking.proofs.told_line.put_processes.Given as goal

abbrev pub invariant-loop-p : goal.invariant-loop-p
invariant-loop-p l =
    l.out.items ≡ l.fn.out.items ++ counted_text (process_text l.config.processes) l.p
