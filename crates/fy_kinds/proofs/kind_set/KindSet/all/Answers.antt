use Rattle.std.proofs.Common.{ap, arith}
use Rattle.bitflags.specs.Sets.{known_from}
use Rattle.fy_kinds.specs.Kinds.{set_of_bits}
use Rattle.fy_kinds.proofs.kind_set.KindSet.all.Goals as goal

pub invariant_of-result : goal.invariant_of-result
unfolding known_from
invariant_of-result c = omega (arith, c.all.ensures tt)

pub returns : goal.returns
unfolding known_from
returns c = ap set_of_bits (c.all.ensures tt)
