use Rattle.fy_locality.proofs.Values.{no_value}
use Rattle.fy_locality.proofs.laws.processes_have_values.Goals as goal

pub returns : goal.returns
returns c = no_value
