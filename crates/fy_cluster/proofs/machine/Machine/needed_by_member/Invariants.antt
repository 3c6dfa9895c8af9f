use Rattle.std.proofs.Common.{◌≡◌}
use Rattle.fy_cluster.specs.Needs.{needed_on}
use Rattle.fy_cluster.proofs.Least.{is_member_below}
use Rattle.fy_cluster.proofs.machine.Machine.needed_by_member.Given as goal

-- the least needed record of the teams up to this one
abbrev pub invariant-loop-team : goal.invariant-loop-team
invariant-loop-team l = l.least ≡ needed_on l.self l.p.0 (is_member_below l.self l.p.0 l.team)
