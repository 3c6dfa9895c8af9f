use Rattle.std.proofs.Common.{ap, refl, sym, ◌∙◌, arith}
use Rattle.std.specs.Ordering.{nat_cmp}
use Rattle.std.specs.FinSet as sets
use Rattle.fy_tolerance.proofs.Needing.{one-costs, one-lacks}
use Rattle.fy_tolerance.proofs.Sufficing.{none-within, one-alone, one-free, one-within}
use Rattle.fy_tolerance.proofs.fewest_to_satisfy.one_needed.Goals as goal
use Rattle.fy_policy.proofs.Walk.{no_least}

pub returns-in-Some-clause-within : goal.returns-in-Some-clause-within
returns-in-Some-clause-within c = none-within c.args.group.now c.empty.result c.empty.ensures

pub returns-in-Some-clause-enough : goal.returns-in-Some-clause-enough
returns-in-Some-clause-enough c = λ processes inside few.
    one-free c.test_is_satisfaction.ensures processes c.args.group.now c.args.free.now c.intersection-both.result c.empty.result c.in-Some._free.0 _ c.intersection-both.ensures c.in-Some.ensures.some.present c.empty.ensures refl inside

pub returns-in-Some-least-clause-least : goal.returns-in-Some-least-clause-least
returns-in-Some-least-clause-least c = λ processes.
    one-costs c.test_is_satisfaction.ensures processes c.args.group.now c.args.free.now 1 (sym c.intersection-both.ensures ∙ no_least _ _ c.least.ensures.none c.in_default.not-Some) (omega arith)

pub returns-in-Some-least-clause-within : goal.returns-in-Some-least-clause-within
returns-in-Some-least-clause-within c =
    one-within c.args.group.now c.put.new.self c.in-Some-least.p.0 c.in-Some-least.ensures.some.present (c.put.ensures ∙ ap (λ (s : sets.FinSet nat_cmp). sets.insert s c.in-Some-least.p.0) c.empty-set.ensures)

pub returns-in-Some-least-clause-enough : goal.returns-in-Some-least-clause-enough
returns-in-Some-least-clause-enough c = λ processes inside few.
    one-alone c.test_is_satisfaction.ensures processes c.args.group.now c.args.free.now c.put.new.self c.in-Some-least.p.0 _ c.in-Some-least.ensures.some.present
    (c.put.ensures ∙ ap (λ (s : sets.FinSet nat_cmp). sets.insert s c.in-Some-least.p.0) c.empty-set.ensures) refl refl inside

pub returns-in-None-clause-least : goal.returns-in-None-clause-least
returns-in-None-clause-least c = λ processes. one-lacks c.test_is_satisfaction.ensures processes c.args.group.now c.args.free.now _ c.in-None.ensures.none
