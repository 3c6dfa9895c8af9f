use Rattle.std.proofs.Common.{◌≡◌, ◌+◌, ap, sym, ◌∙◌, arith}
use Rattle.std.specs.FinSet as sets
use Rattle.fy_tolerance.proofs.Tolerating.{just_so_many}
use Rattle.fy_tolerance.proofs.tolerance.settled.Goals as goal

pub returns-then-any-gt0-clause-exact : goal.returns-then-any-gt0-clause-exact
returns-then-any-gt0-clause-exact c = λ bare.
    just_so_many c.more_of_map_satisfies.ensures c.args.map.now c.args.policy.now (sets.contains c.args.destroyed.now) (sets.contains c.args.left.now) c.least_found-too_many.result c.args.part.now.set c.args.part.now.least c.args.loss
    c.least_found-too_many.ensures.too_many c.least_found-too_many.ensures.least (c.least_found-too_many.ensures.within (c.requires.too_many bare)) (c.requires.exact bare) c.requires.any
    ∙ ap (λ n. n + 1) (sym c.saturating_sub-any.ensures)

-- the set would have one, and was returned
pub returns-in-None-clause-exact : goal.returns-in-None-clause-exact
returns-in-None-clause-exact c = λ bare.
    let just : sets.len c.least_found-too_many.result ≡ c.saturating_sub-any.result + 1 =
    just_so_many c.more_of_map_satisfies.ensures c.args.map.now c.args.policy.now (sets.contains c.args.destroyed.now) (sets.contains c.args.left.now) c.least_found-too_many.result c.args.part.now.set c.args.part.now.least c.args.loss
    c.least_found-too_many.ensures.too_many c.least_found-too_many.ensures.least (c.least_found-too_many.ensures.within (c.requires.too_many bare)) (c.requires.exact bare) c.requires.any
    ∙ ap (λ n. n + 1) (sym c.saturating_sub-any.ensures) in
    absurd (c.if-len-eq1.false (omega (arith, just, c.len.ensures.count, c.if-any-gt0.false)))
