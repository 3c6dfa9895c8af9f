use Rattle.fy_team.proofs.Marking.{mark-acknowledges, acked-by_mark, acked-stays}
use Rattle.fy_team.proofs.laws.a_mark_acknowledges.Goals as goal

pub returns-clause-relation : goal.returns-clause-relation
returns-clause-relation c = mark-acknowledges

pub returns-clause-marks : goal.returns-clause-marks
returns-clause-marks c = acked-by_mark

pub returns-clause-stays : goal.returns-clause-stays
returns-clause-stays c = acked-stays
