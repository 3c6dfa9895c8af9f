use Rattle.std.proofs.Common.{◌&&◌, ◌||◌, not, ap, ◌∙◌}
use Rattle.std.specs.Cmp.{nat_cmp_total}
use Rattle.std.specs.FinSet as sets
use Rattle.std.specs.Ordering.{nat_cmp}
use Rattle.fy_votes.proofs.forgetting.all_but.Goals as goal

pub returns : goal.returns
returns c = λ p.
    ap (λ (t : sets.FinSet nat_cmp). sets.contains t p) c.union.ensures
    ∙ sets.contains-union nat_cmp_total c.difference.result c.args.and.now p
    ∙ ap (λ b. b || sets.contains c.args.and.now p)
    (ap (λ (t : sets.FinSet nat_cmp). sets.contains t p) c.difference.ensures
    ∙ sets.contains-difference nat_cmp_total c.everyone.result c.args.these.now p
    ∙ ap (λ b. b && not (sets.contains c.args.these.now p)) (c.everyone.ensures p))
