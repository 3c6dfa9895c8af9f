use Rattle.std.proofs.Common.{arith}
use Rattle.std.proofs.lemmas.Bool.Decides.{nat_tests}
use Rattle.fy_c.specs.Killing.{NoKindAndFloor}
use Rattle.fy_c.proofs.killing.kinds_of.Goals as goal

pub returns-in_default-clause-none : goal.returns-in_default-clause-none
returns-in_default-clause-none c = NoKindAndFloor.no_kind c.in_default.ensures.none

pub returns-in_default-kind_of-clause-none : goal.returns-in_default-kind_of-clause-none
returns-in_default-kind_of-clause-none c = NoKindAndFloor.no_floor c.in_default-kind_of.ensures.none

pub returns-then-is_above-clause-none : goal.returns-then-is_above-clause-none
returns-then-is_above-clause-none c =
    let said = c.is_above.ensures in
    let above = c.if-is_above.true in
    NoKindAndFloor.above c.in-Some.kind c.in-Some-kind_of.floor c.in-Some.ensures.some
    c.in-Some-kind_of.ensures.some (grind (arith, nat_tests, said, above))
