use Rattle.std.proofs.Common.{◌≡◌, false, take}
use Rattle.fy_c.specs.Bearing.{is_exact}
use Rattle.fy_c.proofs.bearing.is_exact.Given as goal

abbrev pub invariant-loop-one : goal.invariant-loop-one
invariant-loop-one l = is_exact l.any (take l.one-index l.tolerances) ≡ false
