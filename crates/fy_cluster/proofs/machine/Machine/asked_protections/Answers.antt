use Rattle.std.proofs.Common.{◌∙◌}
use Rattle.fy_cluster.proofs.AskedNow.{protected_now}
use Rattle.fy_cluster.proofs.machine.Machine.asked_protections.Goals as goal

pub returns : goal.returns
returns c s h k = c.protections.ensures ∙ protected_now s h c.args.self.now k c.args.p.0
