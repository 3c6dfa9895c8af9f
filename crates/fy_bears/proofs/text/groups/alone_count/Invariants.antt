use Rattle.std.proofs.Common.{◌≡◌, ◌≤◌}
use Rattle.fy_policy.specs.Counted.{number_of}
use Rattle.fy_bears.specs.Texts.{alone_at}
use Rattle.fy_bears.proofs.text.groups.alone_count.Given as goal

abbrev pub invariant-loop-i : goal.invariant-loop-i
invariant-loop-i l = record {
  count : l.count ≡ number_of (alone_at l.group) l.i;
  few : l.count ≤ l.i;
}
