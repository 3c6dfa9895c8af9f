use Rattle.std.proofs.Common.{◌≡◌, take}
use Rattle.fy_locality.specs.declared.key.Key.TheVariants.{Machine}
use Rattle.fy_locality.specs.Locality.{values_of}
use Rattle.fy_actors.proofs.plans.machines.Given as goal

abbrev pub invariant-loop-index : goal.invariant-loop-index
invariant-loop-index l = l.machines.items ≡ take l.index (values_of l.map Machine)
