-- what a tolerance of emptied processes says of who it takes to satisfy a policy
use Rattle.std.proofs.Common.{◌≡◌, ℕ, ◌+◌, ◌-◌, ◌<◌, ◌≤◌, inl, inr, Bool, true, false, not, ◌&&◌, length, refl, sym, subst, arith}
use Rattle.std.specs.FinSet as sets
use Rattle.std.proofs.lemmas.Bool.{both_ways, cases_lt}
use Rattle.fy_policy.specs.Counted.{number_of}
use Rattle.fy_policy.specs.Laws.{TestIsSatisfaction}
use Rattle.fy_policy.specs.Sat.{Sat, satisfies}
use Rattle.fy_policy.specs.Tree.{Tree}
use Rattle.fy_decide.specs.declared.dead_book.Loss.TheVariants.{Emptied}
use Rattle.fy_decide.specs.DeadBook.{Losses}
use Rattle.fy_decide.specs.Safety.{with_set, without_set}
use Rattle.fy_tolerance.specs.Bears.{IsTolerance, ToleratesAny}
use Rattle.fy_tolerance.specs.Costs.{HasNoAnd}
use Rattle.fy_tolerance.specs.declared.tolerance.Tolerance.{Tolerance}
use Rattle.fy_tolerance.proofs.Costing.{number-more}
use Rattle.fy_votes.specs.Counting.{any_of}
use Rattle.fy_votes.specs.Forgetting.{Takes}
use Rattle.fy_votes.proofs.ByCount.{has_so_many}
use Rattle.fy_votes.proofs.Common.{number-with}

module _ (tested : TestIsSatisfaction) (dead : Losses) (policy : Tree) (found : Tolerance) (is : IsTolerance dead policy Emptied found) where
  abbrev beside : ℕ → Bool
  beside = sets.contains dead.destroyed

  enough : Sat dead.processes policy (with_set beside (sets.contains found.too_many))
  enough = go (satisfies dead.processes policy both) refl
    where
      both : ℕ → Bool
      both = with_set beside (sets.contains found.too_many)

      go : (b : Bool) → satisfies dead.processes policy both ≡ b → Sat dead.processes policy both
      go true passes = (tested dead.processes policy both).0 passes
      go false fails = absurd (is.too_many ((λ sat. both_ways _ fails ((tested dead.processes policy both).1 sat)), tt))

  -- a policy that counts processes takes no more than it counts
  module _ (k : ℕ) (counts : policy ≡ any_of k) where
    bare : HasNoAnd policy
    bare = subst HasNoAnd (sym counts) tt

    few : ToleratesAny dead policy Emptied (k - number_of beside (length dead.processes) - 1) → k ≤ number_of beside (length dead.processes) + found.any + 1
    few borne = let most : k - number_of beside (length dead.processes) - 1 ≤ found.any = is.greatest (is.exact bare) _ borne in omega arith

    borne : number_of beside (length dead.processes) < k → ToleratesAny dead policy Emptied (k - number_of beside (length dead.processes) - 1)
    borne over s small = (never, tt)
      where
        never : Sat dead.processes policy (with_set beside s) → ⊥
        never sat =
            let many : k ≤ number_of (with_set beside s) (length dead.processes) = has_so_many dead.processes k (with_set beside s) (subst (λ t. Sat dead.processes t (with_set beside s)) counts sat) in
            let split : number_of (with_set beside s) (length dead.processes) ≡ number_of beside (length dead.processes) + number_of (without_set s beside) (length dead.processes) = number-with beside s (length dead.processes) in
            let less : number_of (without_set s beside) (length dead.processes) ≤ number_of s (length dead.processes) = number-more _ _ (length dead.processes) (λ q below h. first (s q) (not (beside q)) h) in
            omega arith
          where
            first : (a b : Bool) → (a && b) ≡ true → a ≡ true
            first true b e = refl
            first false b e = e

    counted : k ≤ number_of beside (length dead.processes) + found.any + 1
    counted = elim (cases_lt (number_of beside (length dead.processes)) k) [
      | inl over ↦ few (borne over)
      | inr within ↦ omega arith
    ]

  pub takes : Takes dead.processes policy beside found
  takes = record {
    any = λ s small sat. (is.any s small).0 sat;
    enough = enough;
    least = λ part p within there lacks sat. (is.least part p within there lacks).0 sat;
    counted = λ k counts. (counted k counts, is.exact (bare k counts));
  }
