use Rattle.std.proofs.Common.{◌≡◌, map, take}
use Rattle.fy_picture.proofs.Losing.{counting}
use Rattle.fy_picture.proofs.killable.counters_of.Given as goal

-- a counter by each policy so far
abbrev pub invariant-loop-policy : goal.invariant-loop-policy
invariant-loop-policy l = l.counters.items ≡ map (counting l.config.processes) (take l.policy-index l.config.policies)
