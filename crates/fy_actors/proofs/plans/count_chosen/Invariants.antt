use Rattle.std.proofs.Common.{◌≡◌, ◌+◌, ◌≤◌, length, drop}
use Rattle.fy_actors.specs.Plans.{chosen}
use Rattle.fy_actors.proofs.plans.count_chosen.Given as goal

abbrev pub invariant-loop-index : goal.invariant-loop-index
invariant-loop-index l = record {
  counted :
      l.count + length (chosen (drop l.index l.words) (drop l.index l.candidates))
      ≡ length (chosen l.words l.candidates);
  few : l.count ≤ l.index;
}
