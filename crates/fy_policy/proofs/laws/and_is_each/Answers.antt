use Rattle.fy_policy.proofs.Shapes.{satisfies-And}
use Rattle.fy_policy.proofs.laws.and_is_each.Goals as goal

pub returns : goal.returns
returns c = λ processes parts s. satisfies-And processes s parts
