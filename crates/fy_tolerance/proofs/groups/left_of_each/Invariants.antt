use Rattle.std.proofs.Common.{◌≡◌, map, take}
use Rattle.std.specs.FinSet as sets
use Rattle.fy_locality.specs.Locality.{values_of}
use Rattle.fy_tolerance.specs.Bears.{left_with_value}
use Rattle.fy_tolerance.proofs.groups.left_of_each.Given as goal

abbrev pub invariant-loop-i : goal.invariant-loop-i
invariant-loop-i l =
    map (λ set. sets.contains set) l.groups.items ≡ map (left_with_value l.dead l.key) (take l.i (values_of l.dead.processes l.key))
