use Rattle.std.proofs.Common.{◌≤◌, length, ap₂, sym, ◌∙◌, arith}
use Rattle.fy_cluster.specs.Needs.{earlier}
use Rattle.fy_cluster.proofs.Least.{needed_first, needed_more, needed_all}
use Rattle.fy_cluster.proofs.machine.Machine.needed_by_member.Goals as goal

pub loop-team-init : goal.loop-team-init
loop-team-init c = needed_first c.args.self.now c.args.p.0

pub loop-team-preserved : goal.loop-team-preserved
loop-team-preserved c = c.earlier-least.ensures ∙ ap₂ earlier c.loop-team.invariant c.needed_as_member.ensures ∙ sym (needed_more c.args.self.now c.args.p.0 c.loop-team.team)

pub returns : goal.returns
returns c =
    let past : length c.args.self.now.teams.teams ≤ c.loop-team.team = omega arith in
    c.loop-team.invariant ∙ needed_all c.args.self.now c.args.p.0 c.loop-team.team past
