use Rattle.fy_laws.proofs.Blamed.{short_first, short_second}
use Rattle.fy_laws.proofs.laws.blames.one_zone_since.Goals as goal

pub returns-clause-first : goal.returns-clause-first
returns-clause-first c = short_first c.test_is_satisfaction.ensures

pub returns-clause-second : goal.returns-clause-second
returns-clause-second c = short_second c.test_is_satisfaction.ensures
