use Rattle.fy_c.proofs.Drawn.{AreTold}
use Rattle.fy_c.proofs.planning.plan_orders.Given as goal

abbrev pub invariant-loop : goal.invariant-loop
invariant-loop l = AreTold l.map l.fn.plan l.seed l.actor l.counter l.turns l.orders.items
