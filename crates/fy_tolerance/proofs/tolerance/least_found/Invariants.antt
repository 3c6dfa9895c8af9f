use Rattle.std.proofs.Common.{◌≡◌, ℕ, ◌<◌, true, [], ◌∷◌}
use Rattle.std.specs.FinSet as sets
use Rattle.fy_decide.specs.Safety.{MayDestroy}
use Rattle.fy_tolerance.specs.Costs.{IsWithin}
use Rattle.fy_tolerance.proofs.tolerance.least_found.Given as goal

-- those that are kept may not be lost; without any one of them that was asked about they may; they
-- are of those given, where these may not be lost
abbrev pub invariant-loop-p : goal.invariant-loop-p
invariant-loop-p l = record {
  too_many : MayDestroy l.map (l.policy ∷ []) (sets.contains l.destroyed) (sets.contains l.left) (sets.contains l.kept) l.loss → ⊥;
  least : (q : ℕ) → q < l.p → sets.contains l.kept q ≡ true
      → MayDestroy l.map (l.policy ∷ []) (sets.contains l.destroyed) (sets.contains l.left) (sets.contains (sets.remove l.kept q)) l.loss;
  within : (MayDestroy l.map (l.policy ∷ []) (sets.contains l.destroyed) (sets.contains l.left) (sets.contains l.set) l.loss → ⊥)
      → IsWithin (sets.contains l.kept) (sets.contains l.set);
}
