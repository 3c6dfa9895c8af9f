use Rattle.std.proofs.Common.{subst, sym, ◌∙◌}
use Rattle.fy_decide.specs.DeadBook.{IsSafe}
use Rattle.fy_decide.specs.Tallies.{tallied}
use Rattle.fy_decide.proofs.Deciding.{IsSafe-new}
use Rattle.fy_decide.proofs.dead_book.DeadBook.make.Goals as goal

pub invariant_of-result : goal.invariant_of-result
invariant_of-result c = record {
  safe =
      subst (λ ps. IsSafe (record { processes = ps; policies = c.in_ok-policies.policies.items; destroyed = c.empty-2.result; left = c.everyone-left.result })) (sym (c.in_ok-map.ensures.ok ∙ c.in_ok-try_copy.ensures))
      (subst (λ qs. IsSafe (record { processes = c.args.map.now; policies = qs; destroyed = c.empty-2.result; left = c.everyone-left.result })) (sym c.in_ok-policies.ensures)
      (IsSafe-new c.args.map.now c.args.policies.now c.empty-2.result c.everyone-left.result c.empty_satisfies_none.ensures c.empty-2.ensures c.everyone-left.ensures (c.first_unmet.ensures.met c.in_default.is)));
  destroyed_agree = c.in_ok-destroyed_tallies.ensures ∙ (λ i. tallied c.in_ok-map.map.value (sym c.in_ok-policies.ensures i) ((c.empty.ensures ∙ sym c.empty-2.ensures) i));
  left_agree = c.in_ok-left_tallies.ensures ∙ (λ i. tallied c.in_ok-map.map.value (sym c.in_ok-policies.ensures i) c.everyone-left.result);
}
