use Rattle.fy_policy.proofs.Shapes.{part_is_counted}
use Rattle.fy_policy.proofs.laws.parts_are_well_formed.Goals as goal

pub returns : goal.returns
returns c = λ parts i default formed within. part_is_counted parts i default formed within
