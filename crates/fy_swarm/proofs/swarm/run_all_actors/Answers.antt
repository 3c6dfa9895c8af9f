use Rattle.std.proofs.Common.{length, sym, subst}
use Rattle.std.proofs.lemmas.Result.{IfOk-weaker}
use Rattle.fy_cluster.specs.Setup.{Setup}
use Rattle.fy_shared.specs.Yard.{Missing}
use Rattle.fy_swarm.proofs.Swarming.{is_swarm, none_missing, no_fault}
use Rattle.fy_swarm.proofs.swarm.run_all_actors.Goals as goal

pub close-requires-clause-whole : goal.close-requires-clause-whole
close-requires-clause-whole g c =
    let seats = c.in_ok-seats.seats.items in
    subst (λ (setup : Setup). Missing (length setup.roles) seats → ⊥) (sym c.in_ok-shared.ensures.setup)
    (none_missing c.args.config.now c.args.seed c.in_ok-shared.shared seats c.in_ok-seats.ensures.rested c.in_ok-seats.ensures.played)

pub returns-clause-swarm : goal.returns-clause-swarm
returns-clause-swarm g c =
    IfOk-weaker c.close.result _ _
    (λ cluster settled. is_swarm c.parts_are_kept.ensures.others c.in_ok-shared.shared c.args.config.now c.args.seed c.in_ok-seats.seats.items
    cluster settled.0 c.in_ok-shared.ensures.setup c.in_ok-seats.ensures.rested
    c.in_ok-seats.ensures.played settled.1)
    c.close.ensures.settled

pub returns-clause-no_other : goal.returns-clause-no_other
returns-clause-no_other g c = no_fault c.close.result _ c.close.ensures.closes
