use Rattle.fy_decide.proofs.Alone.{HaveFound}
use Rattle.fy_decide.proofs.targets.sole.Given as goal

abbrev pub invariant-loop-k : goal.invariant-loop-k
invariant-loop-k l = HaveFound l.words l.k l.found
