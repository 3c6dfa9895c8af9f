use Rattle.fy_locality.proofs.Values.{IsDistinct-values_of}
use Rattle.fy_locality.proofs.laws.values_differ.Goals as goal

pub returns : goal.returns
returns c = IsDistinct-values_of
