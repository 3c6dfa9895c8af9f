use Rattle.fy_check.proofs.OneFinding.{finding_is_one}
use Rattle.fy_check.proofs.laws.a_finding_is_one.Goals as goal

pub returns : goal.returns
returns c = finding_is_one c.audits_are_unambiguous.ensures c.one_answer.ensures.same
