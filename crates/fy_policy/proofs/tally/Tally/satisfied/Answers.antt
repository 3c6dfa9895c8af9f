use Rattle.std.proofs.Common.{◌≡◌, subst, ◌∙◌, arith}
use Rattle.std.specs.FinSet as sets
use Rattle.fy_policy.specs.Counted.{within}
use Rattle.fy_policy.specs.Sat.{satisfies}
use Rattle.fy_policy.proofs.Standing.{root-same}
use Rattle.fy_policy.proofs.tally.Tally.satisfied.Goals as goal

pub returns : goal.returns
returns c =
    subst (λ t. c.is_satisfied_at.result ≡ satisfies t.processes t.policy (sets.contains t.set)) c.self.view_is
    (c.is_satisfied_at.ensures c.self.inside.map.value (λ _. 0) (sets.contains c.self.inside.set) c.self.invariant.right (omega arith)
    ∙ c.self.invariant.same (within c.self.inside.map.value (λ _. 0) 0 (sets.contains c.self.inside.set))
    ∙ root-same c.self.inside.map.value c.self.inside.policy (sets.contains c.self.inside.set))
