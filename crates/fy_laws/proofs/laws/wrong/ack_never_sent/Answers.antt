use Rattle.fy_laws.proofs.Illegal.{ack_never_sent}
use Rattle.fy_laws.proofs.laws.wrong.ack_never_sent.Goals as goal

pub returns : goal.returns
returns c = ack_never_sent
