use Rattle.std.proofs.Common.{◌≡◌, map}
use Rattle.std.specs.List.{range_with_len}
use Rattle.fy_questions.specs.Told.{hardest_on}
use Rattle.fy_questions.proofs.states.hardest.Given as goal

abbrev pub invariant-loop-p : goal.invariant-loop-p
invariant-loop-p l = l.kinds.items ≡ map (hardest_on l.cluster l.by) (range_with_len 0 l.p)
