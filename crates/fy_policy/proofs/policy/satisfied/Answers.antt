use Rattle.std.proofs.Common.{ap, sym, subst, ◌∙◌}
use Rattle.std.specs.FinSet as sets
use Rattle.fy_policy.specs.Sat.{satisfies}
use Rattle.fy_policy.specs.Tree.{IsWellFormed}
use Rattle.fy_policy.proofs.Tests.{as_relation}
use Rattle.fy_policy.proofs.policy.satisfied.Goals as goal

pub returns-clause-satisfaction : goal.returns-clause-satisfaction
returns-clause-satisfaction c =
    as_relation _ _ _ _ (c.test_is_satisfaction.ensures c.args.map.now c.args.policy.now (sets.contains c.args.set.now))
    (c.shape_satisfied.ensures (subst IsWellFormed (sym c.shape.ensures.shape) c.shape.ensures.policy.counted) ∙ ap (λ q. satisfies c.args.map.now q (sets.contains c.args.set.now)) c.shape.ensures.shape)

pub returns-clause-test : goal.returns-clause-test
returns-clause-test c =
    c.shape_satisfied.ensures (subst IsWellFormed (sym c.shape.ensures.shape) c.shape.ensures.policy.counted) ∙ ap (λ q. satisfies c.args.map.now q (sets.contains c.args.set.now)) c.shape.ensures.shape
