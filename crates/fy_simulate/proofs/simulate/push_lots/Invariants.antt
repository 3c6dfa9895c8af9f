use Rattle.std.proofs.Common.{◌≡◌, ◌++◌}
use Rattle.std.specs.Prelude.{replicate}
use Rattle.fy_simulate.proofs.simulate.push_lots.Given as goal

abbrev pub invariant-loop : goal.invariant-loop
invariant-loop l = l.lots.items ≡ l.fn.lots.items ++ replicate l.counter l.actor
