use Rattle.std.proofs.Common.{◌≡◌, ℕ, take}
use Rattle.std.specs.List.{list_any}
use Rattle.fy_records.specs.Evidence.{is_among, is_told_by}
use Rattle.fy_records.proofs.evidence.tellers_among.Given as goal

abbrev pub invariant-loop-seen : goal.invariant-loop-seen
invariant-loop-seen l = (process : ℕ) → is_among l.nodes.items process ≡ list_any (is_told_by l.written l.value process) (take l.seen-index l.reads)
