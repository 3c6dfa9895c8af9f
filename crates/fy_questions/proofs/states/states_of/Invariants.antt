use Rattle.std.proofs.Common.{◌≡◌, map}
use Rattle.std.specs.List.{range_with_len}
use Rattle.fy_questions.specs.Told.{state_of}
use Rattle.fy_questions.proofs.states.states_of.Given as goal

abbrev pub invariant-loop-p : goal.invariant-loop-p
invariant-loop-p l = l.states.items ≡ map (state_of l.cluster) (range_with_len 0 l.p)
