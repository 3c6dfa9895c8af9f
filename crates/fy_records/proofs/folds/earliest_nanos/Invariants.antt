use Rattle.std.proofs.Common.{◌≡◌, ◌+◌, ℕ, ◌&&◌, take}
use Rattle.std.specs.Prelude.{nat_le}
use Rattle.std.specs.List.{list_any}
use Rattle.fy_records.specs.Found.{reaches}
use Rattle.fy_records.specs.Reads.{is_at_end}
use Rattle.fy_records.proofs.folds.earliest_nanos.Given as goal

abbrev pub invariant-loop-seen : goal.invariant-loop-seen
invariant-loop-seen l =
    (more nanos : ℕ) → reaches l.first more nanos
    ≡ list_any (λ seen. is_at_end l.written seen && nat_le (seen.read.began.nanos + more) nanos)
    (take l.seen-index l.reads)
