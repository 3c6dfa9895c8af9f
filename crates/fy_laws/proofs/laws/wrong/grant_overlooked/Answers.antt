use Rattle.fy_laws.proofs.Illegal.{grant_overlooked}
use Rattle.fy_laws.proofs.laws.wrong.grant_overlooked.Goals as goal

pub returns : goal.returns
returns c = grant_overlooked
