use Rattle.std.proofs.Common.{◌<◌, length, subst, sym}
use Rattle.std.proofs.lemmas.List.Elements.{All-get_or}
use Rattle.fy_grants.specs.declared.grant.Grant.{Grant}
use Rattle.fy_cluster.proofs.Starting.{given_next}
use Rattle.fy_cluster.proofs.opening.give_all.Goals as goal

pub loop-grant-preserved : goal.loop-grant-preserved
loop-grant-preserved c =
    given_next c.grants_after_give.ensures.lists c.grants_after_give.ensures.actors c.grants_are_counted.ensures.given c.args.book.now c.loop-grant.book c.give.new.self c.args.grants.now c.loop-grant.grant-index
    c.grant-item.result
    c.loop-grant-test.true
    c.grant-item.is
    (subst (λ (grant : Grant). grant.actor < length c.args.book.now.grants) (sym c.grant-item.is) (All-get_or (λ grant. grant.actor < length c.args.book.now.grants) c.args.grants.now c.loop-grant.grant-index c.grant-item.result c.loop-grant-test.true c.requires.actors))
    c.in-Ok.ensures.given
    c.loop-grant.invariant
