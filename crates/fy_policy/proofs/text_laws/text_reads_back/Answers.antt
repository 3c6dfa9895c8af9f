use Rattle.fy_policy.proofs.TextLaws.{reads_back}
use Rattle.fy_policy.proofs.text_laws.text_reads_back.Goals as goal

pub returns : goal.returns
returns c = reads_back
