use Rattle.std.proofs.Common.{sym, ◌∙◌}
use Rattle.fy_cluster.proofs.Least.{needed_within, needed_apart}
use Rattle.fy_cluster.proofs.machine.Machine.needed_as_member.Goals as goal

pub returns-then-is_member_of : goal.returns-then-is_member_of
returns-then-is_member_of c = c.needed_of_team.ensures ∙ needed_within c.args.self.now c.args.p.0 c.args.team c.is_member_of.result (sym c.is_member_of.ensures) c.if-is_member_of.true

pub returns-else-is_member_of : goal.returns-else-is_member_of
returns-else-is_member_of c = needed_apart c.args.self.now c.args.p.0 c.args.team c.is_member_of.result (sym c.is_member_of.ensures) c.if-is_member_of.false
