use Rattle.std.proofs.Common.{◌≡◌, map, take}
use Rattle.fy_picture.specs.Counters.{counted_in}
use Rattle.fy_picture.proofs.killable.counts_at.Given as goal

-- the number of each counter so far
abbrev pub invariant-loop-i : goal.invariant-loop-i
invariant-loop-i l = record {
  same : l.counters ≡ l.initial.counters;
  counts : l.counts.items ≡ map (counted_in l.states) (take l.i l.initial.counters);
}
