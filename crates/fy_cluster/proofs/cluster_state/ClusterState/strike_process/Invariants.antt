use Rattle.fy_cluster.proofs.Entering.{point_after}
use Rattle.fy_cluster.proofs.cluster_state.ClusterState.strike_process.Given as goal

abbrev pub ghost-enter_kill : goal.ghost-enter_kill
ghost-enter_kill a = point_after a.config.now a.trail.now a.by
