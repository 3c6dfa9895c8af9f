use Rattle.std.proofs.Common.{◌≡◌, ◌++◌, drop}
use Rattle.fy_actors.specs.Plans.{chosen}
use Rattle.fy_actors.proofs.plans.chosen.Given as goal

abbrev pub invariant-loop-index : goal.invariant-loop-index
invariant-loop-index l =
    l.chosen.items ++ chosen (drop l.index l.words) (drop l.index l.candidates)
    ≡ chosen l.words l.candidates
