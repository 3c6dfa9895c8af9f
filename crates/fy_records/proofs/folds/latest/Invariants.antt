use Rattle.std.proofs.Common.{◌≡◌, ℕ, ◌&&◌, take}
use Rattle.std.specs.Prelude.{nat_lt}
use Rattle.std.specs.List.{list_any}
use Rattle.fy_records.specs.Reads.{passes, began_after}
use Rattle.fy_records.proofs.folds.latest.Given as goal

abbrev pub invariant-loop-seen : goal.invariant-loop-seen
invariant-loop-seen l =
    (line : ℕ) → nat_lt line l.last
    ≡ list_any (λ seen. passes l.test seen && began_after line seen) (take l.seen-index l.reads)
