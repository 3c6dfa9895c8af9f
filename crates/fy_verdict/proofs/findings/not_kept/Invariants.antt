use Rattle.std.proofs.Common.{◌≡◌, length, take}
use Rattle.fy_records.specs.Indexed.{IsIndexOf}
use Rattle.fy_verdict.specs.Found.{judged_lines, AreNotKept}
use Rattle.fy_verdict.specs.Whole.{AreEntryLines}
use Rattle.fy_verdict.proofs.findings.not_kept.Given as goal

abbrev pub invariant-loop-each : goal.invariant-loop-each
invariant-loop-each l = record {
  same : l.outages ≡ l.initial.outages;
  those : AreEntryLines (length l.initial.outages.journal) l.history.entries.items
      → IsIndexOf (judged_lines l.initial.outages.setup l.initial.outages.journal l.history) l.index
      → AreNotKept l.initial.outages.setup l.initial.outages.journal l.history (take l.each-index l.judged) l.records.items;
}
