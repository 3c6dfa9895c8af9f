use Rattle.std.proofs.Common.{◌≡◌, ℕ, ◌&&◌, take}
use Rattle.std.specs.List.{list_any}
use Rattle.fy_records.specs.Reads.{is_before, tells, ended_before}
use Rattle.fy_records.specs.Verdicts.{IsToldAt}
use Rattle.fy_records.proofs.folds.first_told.Given as goal

abbrev pub invariant-loop-seen : goal.invariant-loop-seen
invariant-loop-seen l = record {
  before : (line : ℕ) → is_before line l.first
      ≡ list_any (λ seen. tells l.value seen && ended_before line seen) (take l.seen-index l.reads);
  there : IsToldAt l.reads l.value l.first;
}
