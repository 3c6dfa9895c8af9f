use Rattle.std.proofs.Common.{map}
use Rattle.fy_config.specs.Given.{actor_kept}
use Rattle.fy_config.proofs.Granted.{Granted}
use Rattle.fy_config.proofs.names.grants_of.Given as goal

-- the grants of the actors so far are there
abbrev pub invariant-loop-index : goal.invariant-loop-index
invariant-loop-index l = Granted (map actor_kept l.actors) l.grants.items l.index
