use denote.Param.Send.{IsSend}
use Rattle.fy_c.proofs.Sent.{check_send}
use Rattle.fy_c.specs.contracts.check_handle.FyCheck.{the_row}

pub send : IsSend the_row
send = check_send
