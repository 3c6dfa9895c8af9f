use Rattle.std.proofs.Common.{◌∙◌}
use Rattle.fy_cluster.proofs.AskedNow.{held_now}
use Rattle.fy_cluster.proofs.machine.Machine.asked_holders.Goals as goal

pub returns : goal.returns
returns c s h k p = c.holders.ensures p ∙ held_now s h c.args.self.now k c.args.rec p
