use Rattle.std.proofs.Common.{◌<◌, length, sym, subst}
use Rattle.fy_cluster.specs.Execution.{Execution}
use Rattle.fy_cluster.specs.Standing.{RefinesJournal}
use Rattle.fy_cluster.proofs.Entering.{kept_after_act, not_full}
use Rattle.fy_cluster.proofs.cluster_state.ClusterState.enter.Goals as goal

pub invariant_of-self : goal.invariant_of-self
invariant_of-self c =
    kept_after_act c.self.inside.config c.self.inside.trail c.enter.new.trail c.args.by c.args.act c.enter.result c.enter.new.self c.self.inside.machine c.self.invariant (subst (λ (execution : Execution). length execution.journal < execution.setup.limit) (sym c.self.view_is) (not_full c.args.self.now c.if-is_full.ensures)) c.enter.ensures.answered
    c.enter.ensures.entered
    c.enter.ensures.err

pub returns-clause-survives : goal.returns-clause-survives
returns-clause-survives c =
    let kept : RefinesJournal c.self.inside.config c.enter.new.trail c.enter.new.self =
    kept_after_act c.self.inside.config c.self.inside.trail c.enter.new.trail c.args.by c.args.act c.enter.result c.enter.new.self c.self.inside.machine c.self.invariant (subst (λ (execution : Execution). length execution.journal < execution.setup.limit) (sym c.self.view_is) (not_full c.args.self.now c.if-is_full.ensures)) c.enter.ensures.answered
    c.enter.ensures.entered
    c.enter.ensures.err in
    c.journals_survive.ensures c.self.inside.config c.enter.new.trail kept.setup.met kept.legal
