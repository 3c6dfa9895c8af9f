use Rattle.std.proofs.Common.{◌≡◌, ℕ, take}
use Rattle.std.specs.List.{list_any}
use Rattle.fy_records.specs.Evidence.{is_among, is_held_by}
use Rattle.fy_records.proofs.evidence.holders_among.Given as goal

abbrev pub invariant-loop-found : goal.invariant-loop-found
invariant-loop-found l = (process : ℕ) → is_among l.nodes.items process ≡ list_any (is_held_by l.value process) (take l.found-index l.founds)
