use Rattle.std.proofs.Common.{◌<◌, ◌≤◌}
use Rattle.std.specs.Prelude.{nat_lt}
use Rattle.std.specs.List.{count_by}
use Rattle.fy_tolerance.proofs.parts.level_of.Given as goal

-- too few parts take less than the level
abbrev pub invariant-loop-level : goal.invariant-loop-level
invariant-loop-level l = record {
  few : count_by (λ part. nat_lt part.least l.level) l.parts ≤ l.taken;
  short : 0 < l.level → count_by (λ part. nat_lt part.least l.level) l.parts < l.taken;
}
