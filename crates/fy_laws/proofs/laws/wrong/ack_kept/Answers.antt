use Rattle.fy_laws.proofs.Illegal.{ack_kept}
use Rattle.fy_laws.proofs.laws.wrong.ack_kept.Goals as goal

pub returns : goal.returns
returns c = ack_kept
