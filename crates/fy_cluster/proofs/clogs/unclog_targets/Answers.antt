use Rattle.fy_cluster.proofs.Targets.{clogs_more, clogs_all}
use Rattle.fy_cluster.proofs.clogs.unclog_targets.Goals as goal

pub loop-p-preserved : goal.loop-p-preserved
loop-p-preserved c = clogs_more c.requires c.in-Some.ensures.steps.0 c.in-Some.ensures.steps.1 c.unclog.ensures c.loop-p.invariant

pub returns : goal.returns
returns c = clogs_all c.in-None.ensures.steps.0 c.loop-p.invariant
