use Rattle.std.proofs.Common.{sym, subst}
use Rattle.fy_holders.specs.Turns.{AreTurnsUpTo}
use Rattle.fy_holders.proofs.Since.{turns_up_to}
use Rattle.fy_holders.proofs.outages.Outages.destroyed_since.Goals as goal

pub move_to-requires-clause-turns : goal.move_to-requires-clause-turns
move_to-requires-clause-turns c = subst (AreTurnsUpTo c.self.inside.end) (sym c.deref.ensures.value) (turns_up_to _ _ _ _ c.self.invariant.noted.end_is c.self.invariant.noted.turns_are)
