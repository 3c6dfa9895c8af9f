use Rattle.fy_tolerance.proofs.Values.{contains-members, contains-others}
use Rattle.fy_tolerance.proofs.key_values.take_value.Goals as goal

pub returns-in_default-clause-none : goal.returns-in_default-clause-none
returns-in_default-clause-none c = record { none = c.in_default.ensures.none; left = c.drop_one.ensures }

pub returns-clause-some : goal.returns-clause-some
returns-clause-some c = record {
  value = c.in-Some.ensures.some.value;
  had = c.in-Some.ensures.some.had;
  taken = contains-members c.args.map.now c.args.key c.args.rest.now c.in-Some.peers c.intersection-members.result c.difference.result c.in-Some.ensures.some.value
      c.in-Some.ensures.some.those c.intersection-members.ensures c.difference.ensures;
  left = contains-others c.args.map.now c.args.key c.args.rest.now c.in-Some.peers c.intersection-members.result c.difference.result c.in-Some.ensures.some.value
      c.in-Some.ensures.some.those c.intersection-members.ensures c.difference.ensures;
}
