use Rattle.std.proofs.Common.{◌<◌, length, sym, subst}
use Rattle.fy_acts.specs.declared.act.Act.TheVariants.{Kill}
use Rattle.fy_cluster.specs.Execution.{Execution}
use Rattle.fy_cluster.specs.Standing.{RefinesJournal}
use Rattle.fy_cluster.proofs.Entering.{kept_on}
use Rattle.fy_cluster.proofs.cluster_state.ClusterState.strike_process.Goals as goal

pub invariant_of-self : goal.invariant_of-self
invariant_of-self c =
    subst (λ entries. RefinesJournal c.self.inside.config entries c.enter_kill.new.self) (sym c.enter_kill.ensures.entered)
    (kept_on c.self.inside.config c.self.inside.trail c.args.by (Kill c.args.order.now) c.enter_kill.result c.enter_kill.new.self c.self.inside.machine c.self.invariant (subst (λ (execution : Execution). length execution.journal < execution.setup.limit) (sym c.self.view_is) c.requires.room) c.enter_kill.ensures.answered)

pub returns-clause-survives : goal.returns-clause-survives
returns-clause-survives c =
    let kept : RefinesJournal c.self.inside.config c.enter_kill.new.trail c.enter_kill.new.self =
    subst (λ entries. RefinesJournal c.self.inside.config entries c.enter_kill.new.self) (sym c.enter_kill.ensures.entered)
    (kept_on c.self.inside.config c.self.inside.trail c.args.by (Kill c.args.order.now) c.enter_kill.result c.enter_kill.new.self c.self.inside.machine c.self.invariant (subst (λ (execution : Execution). length execution.journal < execution.setup.limit) (sym c.self.view_is) c.requires.room) c.enter_kill.ensures.answered) in
    c.journals_survive.ensures c.self.inside.config c.enter_kill.new.trail kept.setup.met kept.legal
