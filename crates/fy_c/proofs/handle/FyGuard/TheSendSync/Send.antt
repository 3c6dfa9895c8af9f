use denote.Param.Send.{IsSend}
use Rattle.fy_c.proofs.Sent.{guard_send}
use Rattle.fy_c.specs.contracts.handle.FyGuard.{the_row}

pub send : IsSend the_row
send = guard_send
