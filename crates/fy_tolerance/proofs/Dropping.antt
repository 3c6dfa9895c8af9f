-- why no loss is dropped that a legal journal has
use Rattle.std.proofs.Common.{◌≡◌, ℕ, Bool, true, false, not, ◌&&◌, ◌||◌, cond, List, [], ◌∷◌, refl, sym, ap, ap₂, subst, ◌∙◌, true≢false}
use Rattle.std.specs.FinSet as sets
use Rattle.std.specs.Ordering.{nat_cmp}
use Rattle.std.specs.Cmp.{nat_cmp_total}
use Rattle.fy_locality.specs.declared.locality.Locality.{Locality}
use Rattle.fy_policy.specs.Laws.{MoreSatisfies, TestIsSatisfaction}
use Rattle.fy_policy.specs.Sat.{satisfies}
use Rattle.fy_policy.specs.Tree.{Tree}
use Rattle.fy_decide.specs.declared.dead_book.Loss.TheVariants.{Emptied, Gone}
use Rattle.fy_decide.specs.DeadBook.{Losses, IsFresh, struck}
use Rattle.fy_decide.specs.Safety.{AreShort, AreSatisfied, all_short, all_satisfied, everyone, with_set, without_set}
use Rattle.fy_tolerance.specs.Bears.{NothingIsDropped, lost_as_allowed}
use Rattle.fy_tolerance.specs.Costs.{IsWithin}

module _ (tested : TestIsSatisfaction) (more : MoreSatisfies) where
  tests_short : (processes : List Locality) (policies : List Tree) (s t : ℕ → Bool) → IsWithin s t → AreShort processes policies t → all_short processes policies s ≡ true
  tests_short processes [] s t within short = refl
  tests_short processes (policy ∷ policies) s t within short = ap₂ (λ a b. a && b) (go (satisfies processes policy s) refl) (tests_short processes policies s t within short.1)
    where
      go : (b : Bool) → satisfies processes policy s ≡ b → not (satisfies processes policy s) ≡ true
      go true e = absurd (short.0 (more processes policy s t within ((tested processes policy s).0 e)))
      go false e = ap not e

  tests_satisfied : (processes : List Locality) (policies : List Tree) (s t : ℕ → Bool) → IsWithin s t → AreSatisfied processes policies s → all_satisfied processes policies t ≡ true
  tests_satisfied processes [] s t within met = refl
  tests_satisfied processes (policy ∷ policies) s t within met =
      ap₂ (λ a b. a && b) ((tested processes policy t).1 (more processes policy s t within met.0)) (tests_satisfied processes policies s t within met.1)

  module _ (processes : List Locality) (policies : List Tree) (destroyed gone : sets.FinSet nat_cmp) (begun : Losses) (fresh : IsFresh processes policies begun)
      (short : AreShort processes policies (sets.contains destroyed)) (met : AreSatisfied processes policies (without_set (everyone processes) (sets.contains gone))) (within : IsWithin (sets.contains gone) (sets.contains destroyed)) where
    abbrev once : Losses
    once = struck begun gone Gone

    short_there : AreShort begun.processes begun.policies (sets.contains destroyed)
    short_there = subst (λ qs. AreShort begun.processes qs (sets.contains destroyed)) (sym fresh.policies_are) (subst (λ ps. AreShort ps policies (sets.contains destroyed)) (sym fresh.processes_are) short)

    met_there : AreSatisfied begun.processes begun.policies (without_set (everyone processes) (sets.contains gone))
    met_there =
        subst (λ qs. AreSatisfied begun.processes qs (without_set (everyone processes) (sets.contains gone))) (sym fresh.policies_are)
        (subst (λ ps. AreSatisfied ps policies (without_set (everyone processes) (sets.contains gone))) (sym fresh.processes_are) met)

    nobody_yet : (p : ℕ) → sets.contains begun.destroyed p ≡ false
    nobody_yet p = ap (λ s. sets.contains s p) fresh.none_destroyed ∙ sets.contains-empty nat_cmp p

    either : (a g d : Bool) → a ≡ false → (g ≡ true → d ≡ true) → (a || g) ≡ true → d ≡ true
    either true g d e w h = absurd (true≢false e)
    either false g d e w h = w h

    gone_within : IsWithin (with_set (sets.contains begun.destroyed) (sets.contains gone)) (sets.contains destroyed)
    gone_within p h = either (sets.contains begun.destroyed p) (sets.contains gone p) (sets.contains destroyed p) (nobody_yet p) (within p) h

    others_left : IsWithin (without_set (everyone processes) (sets.contains gone)) (without_set (sets.contains begun.left) (sets.contains gone))
    others_left p h = ap (λ b. b && not (sets.contains gone p)) (fresh.all_left p) ∙ h

    first : lost_as_allowed gone Gone begun ≡ once
    first = ap (λ b. cond b once begun) (ap₂ (λ a b. a && b)
        (tests_short begun.processes begun.policies (with_set (sets.contains begun.destroyed) (sets.contains gone)) (sets.contains destroyed) gone_within short_there)
        (tests_satisfied begun.processes begun.policies (without_set (everyone processes) (sets.contains gone)) (without_set (sets.contains begun.left) (sets.contains gone)) others_left met_there))

    joined : (p : ℕ) → sets.contains once.destroyed p ≡ sets.contains gone p
    joined p = sets.contains-union nat_cmp_total begun.destroyed gone p ∙ ap (λ b. b || sets.contains gone p) (nobody_yet p)

    whole : (g d : Bool) → (g ≡ true → d ≡ true) → (g || d) ≡ d
    whole true d w = sym (w refl)
    whole false d w = refl

    both_within : IsWithin (with_set (sets.contains once.destroyed) (sets.contains destroyed)) (sets.contains destroyed)
    both_within p h = sym (whole (sets.contains gone p) (sets.contains destroyed p) (within p)) ∙ ap (λ b. b || sets.contains destroyed p) (sym (joined p)) ∙ h

    second : lost_as_allowed destroyed Emptied once ≡ struck once destroyed Emptied
    second = ap (λ b. cond b (struck once destroyed Emptied) once)
        (tests_short begun.processes begun.policies (with_set (sets.contains once.destroyed) (sets.contains destroyed)) (sets.contains destroyed) both_within short_there)

    pub book_is : lost_as_allowed destroyed Emptied (lost_as_allowed gone Gone begun) ≡ struck once destroyed Emptied
    book_is = ap (lost_as_allowed destroyed Emptied) first ∙ second

    pub destroyed_is : (p : ℕ) → sets.contains (struck once destroyed Emptied).destroyed p ≡ sets.contains destroyed p
    destroyed_is p =
        sets.contains-union nat_cmp_total once.destroyed destroyed p
        ∙ ap (λ b. b || sets.contains destroyed p) (joined p)
        ∙ whole (sets.contains gone p) (sets.contains destroyed p) (within p)

    pub left_is : (p : ℕ) → sets.contains (struck once destroyed Emptied).left p ≡ without_set (everyone processes) (sets.contains gone) p
    left_is p =
        sets.contains-difference nat_cmp_total begun.left gone p
        ∙ ap (λ b. b && not (sets.contains gone p)) (fresh.all_left p)

  pub nothing_is_dropped : NothingIsDropped
  nothing_is_dropped processes policies destroyed gone dead is short met within =
      let now_is = is.2 ∙ book_is processes policies destroyed gone is.0 is.1 short met within in
      record {
        destroyed_are = λ p. ap (λ (d : Losses). sets.contains d.destroyed p) now_is ∙ destroyed_is processes policies destroyed gone is.0 is.1 short met within p;
        left_are = λ p. ap (λ (d : Losses). sets.contains d.left p) now_is ∙ left_is processes policies destroyed gone is.0 is.1 short met within p;
      }
