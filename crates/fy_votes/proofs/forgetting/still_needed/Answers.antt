use Rattle.std.proofs.Common.{◌≡◌, ℕ, ◌&&◌, not, Option, length, ap, subst, sym, ◌∙◌}
use Rattle.std.specs.Cmp.{nat_cmp_total}
use Rattle.std.specs.FinSet as sets
use Rattle.std.specs.Ordering.{nat_cmp}
use Rattle.std.specs.Prelude.{IfSome, nat_lt}
use Rattle.fy_tolerance.specs.declared.tolerance.Tolerance.{Tolerance}
use Rattle.fy_votes.proofs.forgetting.still_needed.Goals as goal

pub returns-in-Some-clause-some : goal.returns-in-Some-clause-some
returns-in-Some-clause-some c =
    subst (λ (o : Option Tolerance). IfSome o (λ found. (p : ℕ) → sets.contains c.intersection.result p ≡ ((nat_lt p (length c.args.map.now) && not (sets.contains c.args.set.now p)) && sets.contains found.too_many p))) (sym c.in-Some.is)
    (λ p.
    ap (λ (t : sets.FinSet nat_cmp). sets.contains t p) c.intersection.ensures
    ∙ sets.contains-intersection nat_cmp_total c.difference.result c.in-Some.found.too_many p
    ∙ ap (λ b. b && sets.contains c.in-Some.found.too_many p)
    (ap (λ (t : sets.FinSet nat_cmp). sets.contains t p) c.difference.ensures
    ∙ sets.contains-difference nat_cmp_total c.everyone.result c.args.set.now p
    ∙ ap (λ b. b && not (sets.contains c.args.set.now p)) (c.everyone.ensures p)))
