use Rattle.std.proofs.Common.{take}
use Rattle.std.specs.List.{AllZip}
use Rattle.fy_votes.specs.Forgetting.{AreForgettings}
use Rattle.fy_votes.proofs.forgetting.forgettings_by_each.Given as goal

abbrev pub invariant-loop-index : goal.invariant-loop-index
invariant-loop-index l =
    AllZip (AreForgettings l.dead) (take l.index l.elections) l.found.items
