use Rattle.std.proofs.Common.{ap, ◌∙◌}
use Rattle.std.specs.FinSet as sets
use Rattle.fy_decide.specs.DeadBook.{Losses}
use Rattle.fy_decide.specs.Safety.{first_short, without_set}
use Rattle.fy_decide.specs.Targets.{targeted}
use Rattle.fy_decide.proofs.Tallying.{first-without}
use Rattle.fy_decide.proofs.dead_book.DeadBook.too_few_left.Goals as goal

pub returns : goal.returns
returns c =
    let inside : Losses = record { processes = c.self.inside.map.value; policies = c.self.inside.policies.items; destroyed = c.self.inside.destroyed; left = c.self.inside.left } in
    c.first_short_without.ensures
    ∙ first-without inside (targeted c.args.targets.now) c.deref.result.now (c.deref.ensures.value ∙ c.self.invariant.left_agree)
    ∙ ap (λ dead. first_short dead.processes dead.policies (without_set (sets.contains dead.left) (sets.contains (targeted c.args.targets.now)))) c.self.view_is
