use Rattle.std.proofs.Common.{◌∙◌, ap}
use Rattle.std.specs.FinSet as sets
use Rattle.std.specs.List.{position}
use Rattle.fy_policy.specs.Sat.{satisfies}
use Rattle.fy_decide.specs.Targets.{set_of, targeted}
use Rattle.fy_decide.proofs.Alone.{with-one}
use Rattle.fy_decide.proofs.tallies.first_satisfied_with.Goals as goal

pub returns-in-One : goal.returns-in-One
returns-in-One c =
    c.first_satisfied_with_one.ensures
    ∙ (λ i. position (λ tally. satisfies tally.processes tally.policy (sets.contains (with-one tally.set (targeted c.args.targets.now) c.in-One.p.0 (ap set_of c.in-One.is) i))) c.args.tallies.now)
