use Rattle.std.proofs.Common.{◌≡◌, subst, arith}
use Rattle.fy_holders.specs.Turns.{AreEmpty}
use Rattle.fy_holders.proofs.Noting.{empty_none, empty_more}
use Rattle.fy_holders.proofs.turns.no_turns.Goals as goal

pub loop-init : goal.loop-init
loop-init c = empty_none c.new-turns.result.items c.new-turns.ensures.items

pub loop-preserved : goal.loop-preserved
loop-preserved c = empty_more c.loop.counter c.loop.turns.items c.push.new.self.items c.new.result c.new.ensures.items c.in_ok-push.ensures.items c.loop.invariant

pub returns : goal.returns
returns c =
    let end : c.loop.counter ≡ c.args.count = omega arith in
    subst (λ n. AreEmpty n c.loop.turns.items) end c.loop.invariant
