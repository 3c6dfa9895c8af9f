use Rattle.std.proofs.Common.{◌≡◌, ◌≤◌, take}
use Rattle.std.specs.Prelude.{nat_lt}
use Rattle.std.specs.List.{count_by}
use Rattle.fy_tolerance.proofs.parts.number_below.Given as goal

-- how many of those so far take less
abbrev pub invariant-loop-part : goal.invariant-loop-part
invariant-loop-part l = record {
  counted : l.count ≡ count_by (λ part. nat_lt part.least l.level) (take l.part-index l.parts);
  few : l.count ≤ l.part-index;
}
