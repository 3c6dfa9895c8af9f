use Rattle.std.proofs.Common.{ap, sym, ◌∙◌, ◌&&◌, not}
use Rattle.std.specs.Ordering.{nat_cmp}
use Rattle.std.specs.FinSet as sets
use Rattle.fy_grants.specs.Rights.{is_in_scope}
use Rattle.fy_grants.proofs.Covering.{and_false, left_out}
use Rattle.fy_grants.proofs.scopes.without_scope.Goals as goal

pub returns-in-All : goal.returns-in-All
returns-in-All c = λ q.
    ap (λ s. sets.contains s q) c.empty.ensures
    ∙ sets.contains-empty nat_cmp q
    ∙ and_false (sets.contains c.args.set q)
    ∙ ap (λ s. sets.contains c.args.set q && not (is_in_scope c.args.map.now s q)) (sym c.in-All.is)

pub returns-in-Where : goal.returns-in-Where
returns-in-Where c = λ q.
    ap (λ s. sets.contains s q) c.difference.ensures
    ∙ left_out c.args.set c.members.result q _ (c.members.ensures q)
    ∙ ap (λ s. sets.contains c.args.set q && not (is_in_scope c.args.map.now s q)) (sym c.in-Where.is)
