use Rattle.std.proofs.Common.{rules}
use Rattle.fy_policy.specs.Counted.{group_at}
use Rattle.fy_policy.proofs.Leaders.{representative-pushed}
use Rattle.fy_policy.proofs.node.representatives_by_key.Goals as goal

pub loop-p-preserved : goal.loop-p-preserved
loop-p-preserved c = record {
  wide = search rules;
  leaders = representative-pushed c.args.map.now c.args.key (group_at c.args.places.now) c.loop-p.below.items c.push.new.self.items c.representative.result c.loop-p.p c.in_ok-push.ensures.items c.loop-p.invariant.wide c.loop-p.invariant.leaders c.representative.ensures;
}
