use Rattle.fy_cluster.proofs.Entering.{not_full}
use Rattle.fy_cluster.proofs.cluster.make_place.Goals as goal

pub returns-in-Ok-clause-room : goal.returns-in-Ok-clause-room
returns-in-Ok-clause-room c = not_full c.args.state.now c.if-is_full.ensures
