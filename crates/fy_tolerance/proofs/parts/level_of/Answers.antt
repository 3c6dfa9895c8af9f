use Rattle.std.proofs.Common.{◌≡◌, ◌≤◌, ℕ, arith}
use Rattle.std.specs.Prelude.{nat_lt}
use Rattle.std.specs.List.{count_by}
use Rattle.fy_tolerance.proofs.Taking.{none_below}
use Rattle.fy_tolerance.proofs.parts.level_of.Goals as goal

pub loop-level-init : goal.loop-level-init
loop-level-init c = record {
  few = (let none : count_by (λ part. nat_lt part.least 0) c.args.parts.now ≡ 0 = none_below c.args.parts.now in few _ _ none);
  short = λ h. absurd (omega arith);
}
  where
    few : (n m : ℕ) → n ≡ 0 → n ≤ m
    few n m e = omega arith
