use Rattle.std.proofs.Common.{ap, sym, ◌∙◌, ◌&&◌, ◌||◌}
use Rattle.std.specs.Cmp.{nat_cmp_total}
use Rattle.std.specs.FinSet as sets
use Rattle.fy_grants.proofs.cover.put_group.Goals as goal

pub returns-then-wanted : goal.returns-then-wanted
returns-then-wanted c = λ p.
    ap (λ s. sets.contains s p) c.union.ensures
    ∙ sets.contains-union nat_cmp_total c.args.set.now c.args.group.now p
    ∙ ap (λ b. sets.contains c.args.set.now p || b && sets.contains c.args.group.now p) (sym c.if-wanted.true)
