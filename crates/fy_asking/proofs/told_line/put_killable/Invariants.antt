use Rattle.std.proofs.Common.{◌≡◌, ◌++◌, drop, false}
use Rattle.fy_asking.specs.ToldTexts.{hardest_text}
use Rattle.fy_asking.specs.ToldPieces.{listed_text}
use Rattle.fy_asking.proofs.told_line.put_killable.Given as goal

abbrev pub invariant-loop-kind : goal.invariant-loop-kind
invariant-loop-kind l =
    l.out.items ++ listed_text hardest_text l.later (drop l.kind-index l.kinds)
    ≡ l.fn.out.items ++ listed_text hardest_text false l.kinds
