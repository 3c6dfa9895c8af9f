use Rattle.std.proofs.Common.{◌≡◌, ◌≤◌, ◌*◌}
use Rattle.fy_bears.specs.Texts.{pairs_of}
use Rattle.fy_bears.proofs.text.groups.pairs_of.Given as goal

abbrev pub invariant-loop-value : goal.invariant-loop-value
invariant-loop-value l = record {
  count : l.pairs ≡ pairs_of l.value;
  few : l.pairs ≤ l.value * 4294967296;
}
