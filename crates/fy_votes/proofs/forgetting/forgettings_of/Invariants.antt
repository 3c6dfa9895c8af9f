use Rattle.std.proofs.Common.{take}
use Rattle.std.specs.List.{AllZip}
use Rattle.fy_votes.specs.Forgetting.{IsForgetting}
use Rattle.fy_votes.proofs.forgetting.forgettings_of.Given as goal

abbrev pub invariant-loop-index : goal.invariant-loop-index
invariant-loop-index l =
    AllZip (λ writes one. IsForgetting l.dead writes l.elections one) (take l.index l.dead.policies) l.all.items
