use Rattle.fy_c.proofs.Sent.{guard_send}
use Rattle.fy_c.proofs.laws.guards_are_sent.Goals as goal

pub returns : goal.returns
returns c = guard_send
