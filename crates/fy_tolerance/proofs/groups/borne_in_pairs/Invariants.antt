use Rattle.std.proofs.Common.{◌≡◌, ◌++◌, drop, map}
use Rattle.std.specs.FinSet as sets
use Rattle.fy_tolerance.specs.Bears.{borne_pairs}
use Rattle.fy_tolerance.proofs.groups.borne_in_pairs.Given as goal

-- the rows so far, and those of the sets that are to come
abbrev pub invariant-loop-i : goal.invariant-loop-i
invariant-loop-i l =
    map (λ row. row.items) l.rows.items ++ borne_pairs l.dead l.loss (drop l.i (map (λ set. sets.contains set) l.sets))
    ≡ borne_pairs l.dead l.loss (map (λ set. sets.contains set) l.sets)
