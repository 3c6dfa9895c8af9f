use Rattle.std.proofs.Common.{◌<◌, refl, sym, ap, subst, ◌∙◌}
use Rattle.std.specs.FinSet as sets
use Rattle.fy_decide.proofs.Tallying.{len-smaller, put-next, put-last, no_least}
use Rattle.fy_decide.proofs.tallies.put_all.Goals as goal

pub loop-p-init : goal.loop-p-init
loop-p-init c = record { processes = refl; policy = refl; set = refl }

pub loop-p-smaller : goal.loop-p-smaller
loop-p-smaller c = subst (λ s. sets.len s < sets.len c.loop-p.rest) (sym c.drop_one.ensures) (len-smaller c.loop-p.rest c.in-Some.p.0 c.in-Some.ensures.some.present)

pub loop-p-preserved : goal.loop-p-preserved
loop-p-preserved c = record {
  processes = ap (λ t. t.processes) c.add.ensures ∙ c.loop-p.invariant.processes;
  policy = ap (λ t. t.policy) c.add.ensures ∙ c.loop-p.invariant.policy;
  set =
      (λ i. sets.union (c.add.ensures i).set (c.drop_one.ensures i))
      ∙ put-next c.loop-p.tally.set c.loop-p.rest _ c.in-Some.p.0 c.in-Some.ensures.some.present c.loop-p.invariant.set;
}

pub returns : goal.returns
returns c = λ i. record {
  processes = c.loop-p.invariant.processes i;
  policy = c.loop-p.invariant.policy i;
  set = put-last c.loop-p.tally.set c.loop-p.rest _ (no_least _ _ c.least.ensures.none c.in_default.not-Some) c.loop-p.invariant.set i;
}
