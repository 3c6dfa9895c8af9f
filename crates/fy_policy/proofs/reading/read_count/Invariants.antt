use Rattle.fy_policy.proofs.Readings.{CountSoFar}
use Rattle.fy_policy.proofs.reading.read_count.Given as goal

abbrev pub invariant-loop-i : goal.invariant-loop-i
invariant-loop-i l = CountSoFar l.text l.i l.count
