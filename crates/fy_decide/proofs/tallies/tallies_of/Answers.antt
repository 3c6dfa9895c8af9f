use Rattle.std.proofs.Common.{◌≡◌, ◌++◌, ◌∷◌, [], add-one, take, slice_index_or, sym, ap, ◌∙◌}
use Rattle.fy_decide.specs.Tallies.{tallied}
use Rattle.fy_decide.proofs.Tallying.{mapped-push, put-in-none}
use Rattle.fy_decide.proofs.tallies.tallies_of.Goals as goal

pub loop-policy-preserved : goal.loop-policy-preserved
loop-policy-preserved c =
    let next : c.put_all.new.tally ≡ record { processes = c.args.map.now.value; policy = slice_index_or c.args.policies.now c.loop-policy.policy-index c.policy-item.result; set = c.args.set.now } =
    c.put_all.ensures ∙ (λ i. record {
      processes = c.in_ok-tally.ensures.0 i;
      policy = (c.in_ok-tally.ensures.1 ∙ c.policy-item.is) i;
      set = put-in-none c.in_ok-tally.tally.set c.args.set.now c.in_ok-tally.ensures.2 i;
    }) in
    c.in_ok-push.ensures.items
    ∙ (λ i. c.loop-policy.invariant i ++ next i ∷ [])
    ∙ mapped-push (λ P. record { processes = c.args.map.now.value; policy = P; set = c.args.set.now }) c.args.policies.now c.loop-policy.policy-index c.policy-item.result c.loop-policy-test.true
    ∙ ap (λ n. tallied c.args.map.now.value (take n c.args.policies.now) c.args.set.now) (sym (add-one c.loop-policy.policy-index))
