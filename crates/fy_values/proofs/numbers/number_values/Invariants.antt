use Rattle.std.proofs.Common.{take}
use Rattle.fy_values.specs.Values.{AreNumbered}
use Rattle.fy_values.proofs.numbers.number_values.Given as goal

-- the operations so far are numbered
abbrev pub invariant-loop-operation : goal.invariant-loop-operation
invariant-loop-operation l =
    AreNumbered (take l.operation-index l.operations) l.values.keys l.numbered.items
