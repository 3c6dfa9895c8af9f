use Rattle.std.proofs.Common.{◌≡◌, length, map, take, vec_len}
use Rattle.fy_verdict.specs.Whole.{AreEntryLines, is_whole}
use Rattle.fy_verdict.proofs.entries.wholes_of.Given as goal

abbrev pub invariant-loop-read : goal.invariant-loop-read
invariant-loop-read l = record {
  count : vec_len l.wholes ≡ l.read-index;
  each : AreEntryLines (length l.outages.journal) l.history.entries.items → l.wholes.items
      ≡ map (is_whole l.outages.setup l.outages.journal l.history.entries.items)
      (take l.read-index l.history.reads.items);
}
