use Rattle.std.proofs.Common.{◌≡◌, ℕ, ◌+◌, length}
use Rattle.fy_disk.specs.Holders.{holders_of}
use Rattle.fy_disk.proofs.holders.open.Given as goal

abbrev pub invariant-loop-set : goal.invariant-loop-set
invariant-loop-set l = record {
  count : length l.holders.items ≡ length l.initial.holders.items + l._set;
  same : (r : ℕ) → holders_of l.holders.items r ≡ holders_of l.initial.holders.items r;
}
