use Rattle.std.proofs.Common.{ap, ◌∙◌}
use Rattle.std.specs.FinSet as sets
use Rattle.fy_decide.specs.DeadBook.{Losses}
use Rattle.fy_decide.specs.Safety.{first_satisfied, with_set}
use Rattle.fy_decide.specs.Targets.{targeted}
use Rattle.fy_decide.proofs.Tallying.{first-with}
use Rattle.fy_decide.proofs.dead_book.DeadBook.too_many_destroyed.Goals as goal

pub returns : goal.returns
returns c =
    let inside : Losses = record { processes = c.self.inside.map.value; policies = c.self.inside.policies.items; destroyed = c.self.inside.destroyed; left = c.self.inside.left } in
    c.first_satisfied_with.ensures
    ∙ first-with inside (targeted c.args.targets.now) c.deref.result.now (c.deref.ensures.value ∙ c.self.invariant.destroyed_agree)
    ∙ ap (λ dead. first_satisfied dead.processes dead.policies (with_set (sets.contains dead.destroyed) (sets.contains (targeted c.args.targets.now)))) c.self.view_is
