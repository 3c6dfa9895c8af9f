use Rattle.std.proofs.Common.{map}
use Rattle.fy_config.proofs.Places.{made_at}
use Rattle.fy_config.proofs.ReadAll.{read_more}
use Rattle.fy_config.proofs.names.policies_of.Goals as goal

pub returns-in_default : goal.returns-in_default
returns-in_default c = (
  c.loop-index.policies.items,
  c.loop-index.invariant,
  _,
  made_at (λ text. text.now) c.args.texts.now c.loop-index.index _ c.loop-index-test.true,
  rw c.in_default.is at c.in_ok-policy.ensures,
)

pub loop-index-preserved : goal.loop-index-preserved
loop-index-preserved c =
    read_more (map (λ text. text.now) c.args.texts.now) c.loop-index.policies.items c.push.new.self.items c.loop-index.index
    _ c.in-Some.policy c.loop-index.invariant
    (made_at (λ text. text.now) c.args.texts.now c.loop-index.index _ c.loop-index-test.true)
    (rw c.in-Some.is at c.in_ok-policy.ensures) c.in_ok-push.ensures.items
