use Rattle.fy_holders.proofs.Blaming.{three_keep_two}
use Rattle.fy_holders.proofs.laws.three_keep_two.Goals as goal

pub returns : goal.returns
returns c = three_keep_two
