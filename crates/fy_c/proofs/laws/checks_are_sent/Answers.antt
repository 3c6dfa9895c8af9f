use Rattle.fy_c.proofs.Sent.{check_send}
use Rattle.fy_c.proofs.laws.checks_are_sent.Goals as goal

pub returns : goal.returns
returns c = check_send
