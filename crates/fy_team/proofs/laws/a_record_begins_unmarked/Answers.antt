use Rattle.fy_team.proofs.Marking.{begun-marks, begun-acked}
use Rattle.fy_team.proofs.laws.a_record_begins_unmarked.Goals as goal

pub returns-clause-marks : goal.returns-clause-marks
returns-clause-marks c = begun-marks

pub returns-clause-acked : goal.returns-clause-acked
returns-clause-acked c = begun-acked
