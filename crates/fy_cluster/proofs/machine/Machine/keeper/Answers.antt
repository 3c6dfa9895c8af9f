use Rattle.std.proofs.Common.{◌∙◌, sym, ap, find}
use Rattle.fy_cluster.proofs.Finding.{no_keeper, keeper_is, team_is_there}
use Rattle.fy_cluster.proofs.machine.Machine.keeper.Goals as goal

pub returns-then-not-acked : goal.returns-then-not-acked
returns-then-not-acked c setup journal kept = no_keeper setup journal c.args.self.now c.args.rec kept (sym c.acked.ensures ∙ c.if-not-acked.true)

pub unreachable-requires-in_default-members : goal.unreachable-requires-in_default-members
unreachable-requires-in_default-members c = team_is_there c.args.self.now.teams c.invariant.ensures c.args.rec c.in-Some.team c.in-Some.ensures c.in_default-members.ensures

pub returns : goal.returns
returns c setup journal kept =
    keeper_is c.test_is_satisfaction.ensures c.least_is_first_found.ensures setup journal c.args.self.now c.args.rec c.in-Some.team c.in-Some-members.members.now c.first_keeper.result kept
    (sym c.acked.ensures ∙ c.if-not-acked.false)
    c.in-Some.ensures
    c.in-Some-members.ensures
    c.as_slice.ensures.valid.rising
    (c.first_keeper.ensures ∙ ap (find _) c.as_slice.ensures.members)
