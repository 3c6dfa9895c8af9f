use Rattle.fy_cluster.proofs.Shown.{needed_is_at}
use Rattle.fy_cluster.proofs.machine.Machine.needed.Goals as goal

pub returns : goal.returns
returns c setup h stands there = needed_is_at setup h c.args.self.now stands c.args.p.0 there c.needed_by_member.result c.needed_by_member.ensures
