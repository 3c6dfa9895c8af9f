use Rattle.std.proofs.Common.{ap, ◌∙◌}
use Rattle.fy_cluster.specs.Needs.{first_needed_on}
use Rattle.fy_cluster.proofs.Least.{needed_listed}
use Rattle.fy_cluster.proofs.machine.Machine.needed_of_team.Goals as goal

pub returns : goal.returns
returns c = c.first_needed.ensures ∙ ap (first_needed_on c.args.self.now c.args.p.0) c.records_of.ensures ∙ needed_listed c.args.self.now c.args.p.0 c.args.team
