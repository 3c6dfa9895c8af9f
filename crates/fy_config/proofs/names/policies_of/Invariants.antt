use Rattle.std.proofs.Common.{map, take}
use Rattle.fy_config.specs.Config.{AreRead}
use Rattle.fy_config.proofs.names.policies_of.Given as goal

-- the texts so far are those of the policies
abbrev pub invariant-loop-index : goal.invariant-loop-index
invariant-loop-index l = AreRead (take l.index (map (λ text. text.now) l.texts)) l.policies.items
