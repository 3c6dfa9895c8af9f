use Rattle.fy_grants.proofs.Covering.{PassedOver, shielded}
use Rattle.fy_grants.proofs.protections.Protections.least.Given as goal

abbrev pub invariant-loop-p : goal.invariant-loop-p
invariant-loop-p l = PassedOver l.set l.p-iterator (shielded l.self l.kinds)
