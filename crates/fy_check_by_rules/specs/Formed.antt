-- teams of checked entries
use Rattle.fy_team.specs.Teams.{Team}
use Rattle.fy_cluster.specs.History.{Swap}
use Rattle.fy_check_by_rules.specs.declared.teams.Team.{Team as FoundTeam}
use Rattle.fy_check_by_rules.specs.declared.teams.Swap.{Swap as Made}

-- a team as the rules have it
abbrev pub team_of : FoundTeam → Team
team_of t = record { members = t.members.items; policy = t.policy }

-- a swap as the rules have it
abbrev pub swap_of : Made → Swap
swap_of s = record { team = s.team; out = s.out; into = s.into }
