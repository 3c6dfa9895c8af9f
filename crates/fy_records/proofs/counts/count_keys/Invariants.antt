use Rattle.fy_records.specs.Lines.{Lines}
use Rattle.fy_records.specs.Indexed.{IsIndexOf}
use Rattle.fy_records.specs.Counted.{AreKeyCounts, AreAtMost}
use Rattle.fy_records.proofs.counts.count_keys.Given as goal

abbrev pub invariant-loop-key : goal.invariant-loop-key
invariant-loop-key l = record {
  counts : (h : Lines) → IsIndexOf h l.index → AreKeyCounts h l.key l.counts;
  most : AreAtMost l.key l.counts;
}
