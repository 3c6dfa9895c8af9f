use Rattle.std.proofs.Common.{◌≡◌, ℕ, Bool, true, false, not, ◌&&◌, refl, sym, ap, ◌∙◌, true≢false}
use Rattle.std.specs.FinSet as sets
use Rattle.std.specs.Cmp.{nat_cmp_total}
use Rattle.std.specs.Ordering.{nat_cmp, eq_by_cmp}
use Rattle.fy_tolerance.proofs.Tolerating.{is_tied}
use Rattle.fy_tolerance.proofs.tolerance.without_needless.Goals as goal

removed_within : (s f : sets.FinSet nat_cmp) (p q : ℕ) → f ≡ sets.remove s p → sets.contains f q ≡ true → sets.contains s q ≡ true
removed_within s f p q is h =
    second (not (eq_by_cmp nat_cmp q p)) (sets.contains s q) (sym (sets.contains-remove nat_cmp_total s p q) ∙ ap (λ t. sets.contains t q) (sym is) ∙ h)
  where
    second : (a b : Bool) → (a && b) ≡ true → b ≡ true
    second true b e = e
    second false b e = absurd (true≢false (sym e))

removed : (s f : sets.FinSet nat_cmp) (p : ℕ) → f ≡ sets.remove s p → sets.contains f p ≡ true → ⊥
removed s f p is h =
    true≢false (sym h ∙ ap (λ t. sets.contains t p) is ∙ sets.contains-remove nat_cmp_total s p p ∙ ap (λ b. not b && sets.contains s p) (is_tied p p refl))

pub returns-then-is_too_many-clause-within : goal.returns-then-is_too_many-clause-within
returns-then-is_too_many-clause-within c = λ q h. removed_within c.args.set.now c.drop_one.new.self c.args.p.0 q c.drop_one.ensures h

pub returns-then-is_too_many-clause-matters : goal.returns-then-is_too_many-clause-matters
returns-then-is_too_many-clause-matters c = λ h. absurd (removed c.args.set.now c.drop_one.new.self c.args.p.0 c.drop_one.ensures h)
