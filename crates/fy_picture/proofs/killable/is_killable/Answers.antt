use Rattle.std.proofs.Common.{sym, ◌∙◌}
use Rattle.std.specs.FinSet as sets
use Rattle.fy_policy.specs.Sat.{satisfies}
use Rattle.fy_picture.proofs.Losing.{goes_by_left, stays}
use Rattle.fy_picture.proofs.killable.is_killable.Goals as goal

pub returns-then-not-satisfied_with_one : goal.returns-then-not-satisfied_with_one
returns-then-not-satisfied_with_one c =
    let d = c.args.destroyed.now in
    let l = c.args.left.now in
    let p = c.args.p.0 in
    goes_by_left d.processes d.policy d.set l.set p
    c.satisfied_with_one.result c.satisfied_without_one.result
    (sym c.contains.ensures ∙ c.if-not-contains.false) (sym c.contains-else-not-contains.ensures ∙ c.if-contains.false)
    c.satisfied_with_one.ensures
    (c.satisfied_without_one.ensures ∙ (λ i. satisfies (c.requires.tallied i).processes (c.requires.tallied i).policy (sets.contains (sets.remove l.set p))))
    c.if-not-satisfied_with_one.true

pub returns-else-not-satisfied_with_one : goal.returns-else-not-satisfied_with_one
returns-else-not-satisfied_with_one c =
    let d = c.args.destroyed.now in
    stays d.processes d.policy d.set c.args.left.now.set c.args.p.0
    c.satisfied_with_one.result
    (sym c.contains.ensures ∙ c.if-not-contains.false) (sym c.contains-else-not-contains.ensures ∙ c.if-contains.false)
    c.satisfied_with_one.ensures
    c.if-not-satisfied_with_one.false
