use Rattle.std.proofs.Common.{◌≡◌, take}
use Rattle.fy_tolerance.specs.Bears.{least_any}
use Rattle.fy_tolerance.proofs.borne.least_any.Given as goal

abbrev pub invariant-loop-one : goal.invariant-loop-one
invariant-loop-one l = l.least ≡ least_any l.processes (take l.one-index l.tolerances)
