use Rattle.fy_locality.proofs.Words.{members-zeros, AreWords-zeros}
use Rattle.fy_locality.proofs.process_set.ProcSet.empty.Goals as goal

pub invariant_of-result : goal.invariant_of-result
invariant_of-result c = AreWords-zeros

pub returns : goal.returns
returns c = members-zeros
