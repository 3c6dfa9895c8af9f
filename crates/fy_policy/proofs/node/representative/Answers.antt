use Rattle.std.proofs.Common.{◌<◌, sym, subst, ◌∙◌}
use Rattle.std.specs.FinSet as sets
use Rattle.fy_policy.specs.Counted.{group_at}
use Rattle.fy_policy.proofs.Counts.{number_of}
use Rattle.fy_policy.proofs.Leaders.{Looked, looked-first, looked-inside, looked-next, found-representative, looked-all}
use Rattle.fy_policy.proofs.Walk.{fewer-dropped, no_least}
use Rattle.fy_policy.proofs.node.representative.Goals as goal

pub loop-q-init : goal.loop-q-init
loop-q-init c = record {
  group = c.count_at-group.ensures;
  looked = looked-first c.args.map.now c.args.key (group_at c.args.places.now) c.args.p.0 c.in-Some.peers c.in-Some.ensures.some;
}

pub returns-then-count_at-group : goal.returns-then-count_at-group
returns-then-count_at-group c =
    found-representative c.args.map.now c.args.key (group_at c.args.places.now) c.args.p.0 (c.processes_have_values.ensures c.args.map.now) c.in-Some.peers c.loop-q.rest c.in-Some-least.q.0 c.in-Some.ensures.some c.loop-q.invariant.looked c.in-Some-least.ensures.some
    (sym c.count_at.ensures ∙ c.if-count_at-group.true ∙ c.loop-q.invariant.group)

pub loop-q-smaller : goal.loop-q-smaller
loop-q-smaller c =
    subst (λ s. number_of (sets.contains s) 1024 < number_of (sets.contains c.loop-q.rest) 1024) (sym c.drop_one.ensures)
    (fewer-dropped c.loop-q.rest c.in-Some-least.q.0 c.in-Some-least.ensures.some.present c.in-Some-least.ensures.small)

pub loop-q-preserved : goal.loop-q-preserved
loop-q-preserved c = record {
  group = c.loop-q.invariant.group;
  looked =
      subst (Looked c.args.map.now c.args.key (group_at c.args.places.now) c.args.p.0) (sym c.drop_one.ensures)
      (looked-next c.args.map.now c.args.key (group_at c.args.places.now) c.args.p.0 c.loop-q.rest c.in-Some-least.q.0 c.loop-q.invariant.looked (λ same. c.if-count_at-group.false (c.count_at.ensures ∙ same ∙ sym c.loop-q.invariant.group)));
}

pub returns-in_default : goal.returns-in_default
returns-in_default c =
    absurd (looked-all c.args.map.now c.args.key (group_at c.args.places.now) c.args.p.0 c.in-Some.peers c.loop-q.rest c.in-Some.ensures.some c.loop-q.invariant.looked (no_least _ _ c.least.ensures.none c.in_default.not-Some))

pub count_at-requires : goal.count_at-requires
count_at-requires c =
    subst (λ n. c.in-Some-least.q.0 < n) (sym c.requires.places)
    (looked-inside c.args.map.now c.args.key (group_at c.args.places.now) c.args.p.0 (c.processes_have_values.ensures c.args.map.now) c.in-Some.peers c.loop-q.rest c.in-Some-least.q.0 c.in-Some.ensures.some c.loop-q.invariant.looked c.in-Some-least.ensures.some)
