use Rattle.std.proofs.Common.{◌≡◌, ◌++◌, drop}
use Rattle.fy_simulate.specs.Simulate.{lots_from}
use Rattle.fy_simulate.proofs.simulate.all_lots.Given as goal

abbrev pub invariant-loop-actor : goal.invariant-loop-actor
invariant-loop-actor l =
    l.lots.items ++ lots_from l.actor (drop l.actor l.config.roles) ≡ lots_from 0 l.config.roles
