use Rattle.fy_check.specs.Inputs.{IsRefused}
use Rattle.fy_check.proofs.input.refuse.Goals as goal

pub returns-in-Err-clause-stop : goal.returns-in-Err-clause-stop
returns-in-Err-clause-stop g c = IsRefused.cut c.in-Err.fault c.input_stop.ensures.stop c.in-Err.ensures.cut
