use Rattle.std.proofs.Common.{◌-◌, take}
use Rattle.std.specs.Prelude.{nat_lt}
use Rattle.std.specs.List.{count_by}
use Rattle.fy_tolerance.proofs.Taking.{Taken}
use Rattle.fy_tolerance.proofs.parts.cheapest.Given as goal

abbrev pub invariant-loop-part : goal.invariant-loop-part
invariant-loop-part l =
    Taken l.level (l.taken - count_by (λ part. nat_lt part.least l.level) l.parts) (take l.part-index l.parts) l.all l.room
