use Rattle.std.proofs.Common.{take}
use Rattle.std.specs.List.{AllZip}
use Rattle.fy_tolerance.specs.Bears.{IsTolerance}
use Rattle.fy_tolerance.proofs.borne.tolerances_of.Given as goal

abbrev pub invariant-loop-index : goal.invariant-loop-index
invariant-loop-index l =
    AllZip (λ policy one. IsTolerance l.dead policy l.loss one) (take l.index l.dead.policies) l.tolerances.items
