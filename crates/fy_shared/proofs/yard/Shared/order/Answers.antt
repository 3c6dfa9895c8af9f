use Rattle.fy_actors.specs.Desk.{Worked}
use Rattle.fy_shared.specs.AtDesk.{MakesAct}
use Rattle.fy_shared.proofs.AtDesk.{does_so, did_too, ordered_if, refused_if}
use Rattle.fy_shared.proofs.yard.Shared.order.Goals as goal

pub with_desk-requires-clause-works : goal.with_desk-requires-clause-works
with_desk-requires-clause-works g c who then before after answer does =
    does_so _ _ who before answer then after (λ x b x' b'. Worked b b') (λ x b x' b' met. met.1) does

pub returns-clause-ok : goal.returns-clause-ok
returns-clause-ok g c =
    ordered_if c.args.self.now c.args.seat.now _ c.args.act c.with_desk.result
    (did_too _ _ _ _ _ (λ before after does.
    does_so _ _ _ before _ _ after (λ x b x' b'. MakesAct b b' c.args.act c.with_desk.result)
    (λ x b x' b' met. met.0) does) c.with_desk.ensures.did)

pub returns-clause-err : goal.returns-clause-err
returns-clause-err g c =
    refused_if c.args.self.now c.args.seat.now _ c.args.act c.with_desk.result
    (did_too _ _ _ _ _ (λ before after does.
    does_so _ _ _ before _ _ after (λ x b x' b'. MakesAct b b' c.args.act c.with_desk.result)
    (λ x b x' b' met. met.0) does) c.with_desk.ensures.did)
