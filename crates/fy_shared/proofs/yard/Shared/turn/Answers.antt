use Rattle.fy_actors.specs.Desk.{Worked}
use Rattle.fy_actors.specs.Parts.{PlaysTurn}
use Rattle.fy_shared.proofs.AtDesk.{does_so, did_too}
use Rattle.fy_shared.proofs.yard.Shared.turn.Goals as goal

pub with_desk-requires-clause-works : goal.with_desk-requires-clause-works
with_desk-requires-clause-works g c who then before after answer does =
    does_so _ _ who before answer then after (λ x b x' b'. Worked b b') (λ x b x' b' met. met.1) does

pub returns-clause-plays : goal.returns-clause-plays
returns-clause-plays g c =
    did_too _ _ _ _ _ (λ before after does.
    does_so _ _ _ before _ _ after
    (λ x b x' b'. PlaysTurn ((goal.FaultActor-dyn g (x.vtable, x.value)).part x.value, b)
    ((goal.FaultActor-dyn g (x'.vtable, x'.value)).part x'.value, b') c.with_desk.result)
    (λ x b x' b' met. met.0) does) c.with_desk.ensures.did
