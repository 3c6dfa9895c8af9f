use Rattle.std.proofs.Common.{◌∙◌}
use Rattle.fy_cluster.proofs.AskedNow.{team_now}
use Rattle.fy_cluster.proofs.machine.Machine.asked_team.Goals as goal

pub returns : goal.returns
returns c s h k = c.team_of.ensures ∙ team_now s h c.args.self.now k c.args.rec
