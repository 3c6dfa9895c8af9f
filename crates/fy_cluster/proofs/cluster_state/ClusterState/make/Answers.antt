use Rattle.fy_cluster.proofs.Starting.{kept_at_start}
use Rattle.fy_cluster.proofs.cluster_state.ClusterState.make.Goals as goal

pub invariant_of-result : goal.invariant_of-result
invariant_of-result c = kept_at_start c.args.config c.in_ok-make.field-0 c.in_ok-machine.machine c.in_ok-make.ensures c.invariant.ensures c.in_ok-machine.ensures
