use Rattle.std.proofs.Common.{◌<◌, refl, sym, ap, subst, ◌∙◌}
use Rattle.std.specs.FinSet as sets
use Rattle.fy_picture.proofs.Moving.{IsMovedBut, len-smaller, put_next, drop_next, moved_all, no_least}
use Rattle.fy_picture.proofs.tallied_set.move_those.Goals as goal

pub loop-p-init : goal.loop-p-init
loop-p-init c = record { processes = refl; policy = refl; set = c.requires }

pub loop-p-smaller : goal.loop-p-smaller
loop-p-smaller c = subst (λ s. sets.len s < sets.len c.loop-p.rest) (sym c.drop_one.ensures) (len-smaller c.loop-p.rest c.in-Some.p.0 c.in-Some.ensures.some.present)

pub loop-p-smaller-then-has : goal.loop-p-smaller-then-has
loop-p-smaller-then-has c = subst (λ s. sets.len s < sets.len c.loop-p.rest) (sym c.drop_one.ensures) (len-smaller c.loop-p.rest c.in-Some.p.0 c.in-Some.ensures.some.present)

pub loop-p-preserved-then-has : goal.loop-p-preserved-then-has
loop-p-preserved-then-has c = record {
  processes = ap (λ t. t.processes) c.add.ensures ∙ c.loop-p.invariant.processes;
  policy = ap (λ t. t.policy) c.add.ensures ∙ c.loop-p.invariant.policy;
  set =
      subst (λ t. IsMovedBut c.drop_one.new.self t.set c.args.to.now) (sym c.add.ensures)
      (subst (λ r. IsMovedBut r (sets.insert c.loop-p.tally.set c.in-Some.p.0) c.args.to.now) (sym c.drop_one.ensures)
      (put_next c.loop-p.rest c.loop-p.tally.set c.args.to.now c.in-Some.p.0 (sym c.has.ensures ∙ c.if-has.true) c.loop-p.invariant.set));
}

pub loop-p-preserved : goal.loop-p-preserved
loop-p-preserved c = record {
  processes = ap (λ t. t.processes) c.remove.ensures ∙ c.loop-p.invariant.processes;
  policy = ap (λ t. t.policy) c.remove.ensures ∙ c.loop-p.invariant.policy;
  set =
      subst (λ t. IsMovedBut c.drop_one.new.self t.set c.args.to.now) (sym c.remove.ensures)
      (subst (λ r. IsMovedBut r (sets.remove c.loop-p.tally.set c.in-Some.p.0) c.args.to.now) (sym c.drop_one.ensures)
      (drop_next c.loop-p.rest c.loop-p.tally.set c.args.to.now c.in-Some.p.0 (sym c.has.ensures ∙ c.if-has.false) c.loop-p.invariant.set));
}

pub returns : goal.returns
returns c = λ i. record {
  processes = c.loop-p.invariant.processes i;
  policy = c.loop-p.invariant.policy i;
  set = moved_all c.loop-p.rest c.loop-p.tally.set c.args.to.now (no_least _ _ c.least.ensures.none c.in_default.not-Some) c.loop-p.invariant.set i;
}
