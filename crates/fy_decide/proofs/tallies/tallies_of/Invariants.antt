use Rattle.std.proofs.Common.{◌≡◌, take}
use Rattle.fy_decide.specs.Tallies.{tallied}
use Rattle.fy_decide.proofs.tallies.tallies_of.Given as goal

-- a tally by each policy so far
abbrev pub invariant-loop-policy : goal.invariant-loop-policy
invariant-loop-policy l = l.tallies.items ≡ tallied l.map.value (take l.policy-index l.policies) l.set
