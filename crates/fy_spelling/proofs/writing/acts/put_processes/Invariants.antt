use Rattle.std.proofs.Common.{◌≡◌, ◌≤◌, ◌++◌, drop, false, vec_capacity}
use Rattle.fy_spelling.specs.Pieces.{processes_text}
use Rattle.fy_spelling.specs.AppendsOrOom.{IsPrefixOf}
use Rattle.fy_spelling.proofs.writing.acts.put_processes.Given as goal

abbrev pub invariant-loop-p : goal.invariant-loop-p
invariant-loop-p l =
    IsPrefixOf l.fn.out.items l.out.items
    × (l.out.items ++ processes_text l.later (drop l.p-index l.processes)
    ≡ l.fn.out.items ++ processes_text false l.processes)
    × (vec_capacity l.fn.out ≤ vec_capacity l.out)
