use Rattle.fy_c.specs.Killable.{AreHardest}
use Rattle.fy_c.proofs.killable.write_hardest.Given as goal

abbrev pub invariant-loop-p : goal.invariant-loop-p
invariant-loop-p l = AreHardest l.cluster l.actor l.p l.fn.kinds l.kinds
