use Rattle.fy_cluster.proofs.Entering.{point_after}
use Rattle.fy_cluster.proofs.cluster_state.ClusterState.enter.Given as goal

abbrev pub ghost-enter : goal.ghost-enter
ghost-enter a = point_after a.config.now a.trail.now a.by
