use Rattle.std.proofs.Common.{◌≡◌, ℕ, length, slice_index_or}
use Rattle.fy_policy.proofs.node.zeros.Given as goal

abbrev pub invariant-loop : goal.invariant-loop
invariant-loop l = record {
  wide : length l.counts.items ≡ l.counter;
  zeros : (i : ℕ) → slice_index_or l.counts.items i 0 ≡ 0;
}
