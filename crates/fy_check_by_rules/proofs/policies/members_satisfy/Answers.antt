use Rattle.std.proofs.Common.{◌∙◌}
use Rattle.std.specs.FinSet as sets
use Rattle.fy_team.specs.Teams.{is_among}
use Rattle.fy_check_by_rules.proofs.Within.{met}
use Rattle.fy_check_by_rules.proofs.policies.members_satisfy.Goals as goal

pub returns : goal.returns
returns c =
    c.satisfied.ensures.test ∙ met c.map-map.result.now c.args.config.now.processes c.args.need.now (sets.contains c.set_of-set.result) (is_among c.args.members.now) c.map-map.ensures c.set_of-set.ensures
