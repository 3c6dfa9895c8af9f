use Rattle.std.proofs.lemmas.Bool.{both_ways}
use Rattle.fy_votes.proofs.Booked.{taken_beside_lost, unborne}
use Rattle.fy_votes.proofs.forgetting.taken_beside_set.Goals as goal

pub returns-then-not-may_destroy-clause-none : goal.returns-then-not-may_destroy-clause-none
returns-then-not-may_destroy-clause-none c =
    unborne c.test_is_satisfaction.ensures c.args.map.now c.args.policy.now c.from_ref-policies.result.now c.in-Ok.dead c.args.set.now c.in-Ok.ensures.made c.from_ref-policies.ensures.value
    (λ may. both_ways _ c.if-not-may_destroy.true (c.may_destroy.ensures.relation.1 may))

pub returns-clause-some : goal.returns-clause-some
returns-clause-some c =
    taken_beside_lost c.args.map.now c.args.policy.now c.from_ref-policies.result.now c.in-Ok.dead c.strike.new.self c.args.set.now c.in_ok-taken.taken c.in-Ok.ensures.made c.from_ref-policies.ensures.value c.strike.ensures c.in_ok-taken.ensures
