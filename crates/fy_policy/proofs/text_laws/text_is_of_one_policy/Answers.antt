use Rattle.fy_policy.proofs.TextOnce.{text_once}
use Rattle.fy_policy.proofs.text_laws.text_is_of_one_policy.Goals as goal

pub returns : goal.returns
returns c = text_once
