use Rattle.std.proofs.Common.{ℕ, ◌<◌, [], ◌∷◌}
use Rattle.std.specs.FinSet as sets
use Rattle.std.specs.Ordering.{nat_cmp}
use Rattle.fy_decide.specs.Safety.{MayDestroy}
use Rattle.fy_tolerance.proofs.tolerance.one_too_many.Given as goal

-- each one that was asked about may be lost alone
abbrev pub invariant-loop-p : goal.invariant-loop-p
invariant-loop-p l =
    (q : ℕ) → q < l.p
    → MayDestroy l.map (l.policy ∷ []) (sets.contains l.destroyed) (sets.contains l.left) (sets.contains (sets.insert (sets.empty {R = nat_cmp}) q)) l.loss
