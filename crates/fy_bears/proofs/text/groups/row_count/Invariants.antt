use Rattle.std.proofs.Common.{◌≡◌, ◌≤◌}
use Rattle.fy_policy.specs.Counted.{number_of}
use Rattle.fy_bears.specs.Texts.{pair_at}
use Rattle.fy_bears.proofs.text.groups.row_count.Given as goal

abbrev pub invariant-loop-behind : goal.invariant-loop-behind
invariant-loop-behind l = record {
  count : l.count ≡ number_of (pair_at l.group l.first) l.behind;
  few : l.count ≤ l.behind;
}
