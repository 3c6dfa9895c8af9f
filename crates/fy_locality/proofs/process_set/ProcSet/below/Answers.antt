use Rattle.std.proofs.Common.{arith}
use Rattle.fy_locality.proofs.Lowest.{contains_lowest}
use Rattle.fy_locality.proofs.Words.{AreWords-zeros}
use Rattle.fy_locality.proofs.process_set.ProcSet.below.Goals as goal

pub loop-k-init : goal.loop-k-init
loop-k-init c = record { words = AreWords-zeros; low = λ k h. absurd (omega arith) }

pub returns : goal.returns
returns c = contains_lowest c.args.count c.loop-k.k c.loop-k.words c.requires c.loop-k-test.false c.loop-k.invariant
