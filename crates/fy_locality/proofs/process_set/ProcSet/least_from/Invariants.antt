use Rattle.std.proofs.Common.{◌≡◌, ℕ, ◌<◌, ◌≤◌, slice_index}
use Rattle.fy_locality.proofs.process_set.ProcSet.least_from.Given as goal

abbrev pub invariant-loop-k : goal.invariant-loop-k
invariant-loop-k l = (j : ℕ) → l.first ≤ j → j < l.k → slice_index l.self-inside.words j ≡ 0
