use Rattle.fy_cluster.proofs.Entering.{not_full}
use Rattle.fy_cluster.proofs.cluster_state.ClusterState.kill_process.Goals as goal

pub strike_process-reply-requires-clause-room : goal.strike_process-reply-requires-clause-room
strike_process-reply-requires-clause-room c = not_full c.args.self.now c.if-is_full.ensures
