use Rattle.fy_holders.proofs.Since.{IsSinceUpTo}
use Rattle.fy_holders.proofs.outages.since_of.Given as goal

-- the processes so far were destroyed since just where they are in the set
abbrev pub invariant-loop-p : goal.invariant-loop-p
invariant-loop-p l = IsSinceUpTo l.turns l.from l.end l.p l.to l.destroyed
