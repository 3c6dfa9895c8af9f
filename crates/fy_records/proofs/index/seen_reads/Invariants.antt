use Rattle.std.proofs.Common.{◌≡◌, take}
use Rattle.fy_records.specs.Lines.{seen_reads}
use Rattle.fy_records.proofs.index.seen_reads.Given as goal

abbrev pub invariant-loop-i : goal.invariant-loop-i
invariant-loop-i l = l.seen.items ≡ seen_reads l.writes (take l.i l.reads) (take l.i l.wholes)
