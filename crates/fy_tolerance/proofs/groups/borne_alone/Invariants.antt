use Rattle.std.proofs.Common.{◌≡◌, map, take}
use Rattle.fy_locality.specs.Locality.{values_of}
use Rattle.fy_decide.specs.DeadBook.{may_lose}
use Rattle.fy_tolerance.specs.Bears.{left_with_value}
use Rattle.fy_tolerance.proofs.groups.borne_alone.Given as goal

abbrev pub invariant-loop-i : goal.invariant-loop-i
invariant-loop-i l =
    l.borne.items ≡ map (λ value. may_lose l.dead (left_with_value l.dead l.key value) l.loss) (take l.i (values_of l.dead.processes l.key))
