use Rattle.std.proofs.Common.{◌||◌, eqb, ap, ◌∙◌}
use Rattle.std.specs.FinSet as sets
use Rattle.fy_team.proofs.Counting.{has_inserted, has_removed}
use Rattle.fy_team.proofs.forming.swap_in.Goals as goal

pub returns : goal.returns
returns c = λ q.
    ap (λ s. sets.contains s q) c.put.ensures
    ∙ has_inserted c.drop_one.new.self c.args.into.0 q
    ∙ ap (λ s. eqb q c.args.into.0 || sets.contains s q) c.drop_one.ensures
    ∙ ap (λ b. eqb q c.args.into.0 || b) (has_removed c.args.set.now c.args.out.0 q)
