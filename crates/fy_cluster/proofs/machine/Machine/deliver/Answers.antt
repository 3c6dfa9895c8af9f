use Rattle.std.proofs.Common.{sym}
use Rattle.fy_cluster.proofs.Delivered.{none_there}
use Rattle.fy_cluster.proofs.machine.Machine.deliver.Goals as goal

pub returns-in-None : goal.returns-in-None
returns-in-None g c = none_there g.point c.args.message _ c.requires.0 (sym c.in-None.ensures.body)
