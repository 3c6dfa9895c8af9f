use Rattle.std.proofs.Common.{◌≡◌, ◌-◌, ◌^◌, min, take}
use Rattle.std.specs.Prelude.{sum_by}
use Rattle.fy_tolerance.proofs.parts.least_at.Given as goal

-- what the parts so far fall short, as far as 64 bits hold it
abbrev pub invariant-loop-part : goal.invariant-loop-part
invariant-loop-part l =
    l.short ≡ min (sum_by (λ part. l.level - part.least) (take l.part-index l.parts)) (2 ^ 64 - 1)
