use Rattle.fy_policy.proofs.TextLaws.{text_short}
use Rattle.fy_policy.proofs.text_laws.text_is_short.Goals as goal

pub returns : goal.returns
returns c = text_short
