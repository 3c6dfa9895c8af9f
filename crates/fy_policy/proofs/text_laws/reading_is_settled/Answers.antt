use Rattle.fy_policy.proofs.TextLaws.{settled}
use Rattle.fy_policy.proofs.text_laws.reading_is_settled.Goals as goal

pub returns : goal.returns
returns c = settled
