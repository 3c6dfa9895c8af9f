use Rattle.fy_decide.proofs.Judging.{less_is_named}
use Rattle.fy_decide.proofs.laws.rule_is_named_for_less.Goals as goal

pub returns : goal.returns
returns c = less_is_named
