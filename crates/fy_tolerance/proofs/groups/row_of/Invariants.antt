use Rattle.std.proofs.Common.{◌≡◌, ◌+◌, ◌++◌, drop, map}
use Rattle.std.specs.FinSet as sets
use Rattle.fy_decide.specs.DeadBook.{may_lose}
use Rattle.fy_decide.specs.Safety.{with_set}
use Rattle.fy_tolerance.proofs.groups.row_of.Given as goal

-- what was found so far, and what is to come
abbrev pub invariant-loop-j : goal.invariant-loop-j
invariant-loop-j l =
    l.row.items ++ map (λ other. may_lose l.dead (with_set (sets.contains l.one) (sets.contains other)) l.loss) (drop l.j l.groups)
    ≡ map (λ other. may_lose l.dead (with_set (sets.contains l.one) (sets.contains other)) l.loss) (drop (l.i + 1) l.groups)
