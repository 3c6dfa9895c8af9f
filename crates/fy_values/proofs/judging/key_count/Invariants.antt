use Rattle.std.proofs.Common.{◌<◌, All, take}
use Rattle.fy_registers.specs.declared.keyed.Keyed.{Keyed}
use Rattle.fy_values.proofs.judging.key_count.Given as goal

abbrev pub invariant-loop-keyed : goal.invariant-loop-keyed
invariant-loop-keyed l = All (λ (o : Keyed). o.key < l.count) (take l.keyed-index l.operations)
