use Rattle.std.proofs.Common.{arith, ◌≡◌, subst}
use Rattle.fy_c.specs.Planning.{AreOrdersOf}
use Rattle.fy_c.proofs.Drawn.{none_told, one_more_told, told_all}
use Rattle.fy_c.proofs.planning.plan_orders.Goals as goal

pub loop-init : goal.loop-init
loop-init c =
    none_told c.args.map.now c.args.plan c.args.seed c.args.actor c.make-turns.result
    c.new-orders.result.items c.make-turns.ensures c.new-orders.ensures.items

pub loop-preserved : goal.loop-preserved
loop-preserved c =
    one_more_told c.args.map.now c.args.plan c.args.seed c.args.actor c.loop.counter c.loop.turns
    c.next.new.self c.loop.orders.items c.push.new.self.items c.in_ok-act.act c.order_of.result
    c.loop.invariant c.in_ok-act.ensures c.order_of.ensures c.in_ok-push.ensures.items

pub returns : goal.returns
returns c =
    let ended = c.loop-test.false in
    let within = c.loop.auto.counter-end in
    let all : c.loop.counter ≡ c.args.count = omega arith in
    subst (λ count. AreOrdersOf c.args.map.now c.args.plan c.args.seed c.args.actor count
    c.loop.orders.items) all
    (told_all c.args.map.now c.args.plan c.args.seed c.args.actor c.loop.counter c.loop.turns
    c.loop.orders.items c.loop.invariant)
