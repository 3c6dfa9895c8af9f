use Rattle.std.proofs.Common.{ap₂, sym, ◌∙◌}
use Rattle.fy_acts.specs.declared.act.Act.{Act}
use Rattle.fy_cluster.specs.Execution.{Execution, entered}
use Rattle.fy_cluster.proofs.Runs.{after_next}
use Rattle.fy_cluster.proofs.cluster.Cluster.run.Goals as goal

pub loop-by-preserved : goal.loop-by-preserved
loop-by-preserved c = (
  c.in_ok-apply.ensures.entered
      ∙ ap₂ (λ (execution : Execution) (act : Act). entered execution c.loop-by-item.result.0 act) c.loop-by.invariant.0 c.in_ok-act.ensures.equal
      ∙ sym (after_next c.args.self.now c.args.acts.now c.loop-by.by-index c.loop-by-item.result c.loop-by-test.true c.loop-by-item.is),
  c.apply.ensures.survives,
)
