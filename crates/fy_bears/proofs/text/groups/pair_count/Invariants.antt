use Rattle.std.proofs.Common.{◌≡◌, ◌≤◌, ◌*◌}
use Rattle.fy_bears.specs.Texts.{pairs_before}
use Rattle.fy_bears.proofs.text.groups.pair_count.Given as goal

abbrev pub invariant-loop-first : goal.invariant-loop-first
invariant-loop-first l = record {
  count : l.count ≡ pairs_before l.group l.all l.first;
  few : l.count ≤ l.first * 4294967296;
}
