use Rattle.fy_team.proofs.Marking.{marked-teams, marked-marks, marked-again}
use Rattle.fy_team.proofs.laws.a_mark_is_one_more.Goals as goal

pub returns-clause-teams : goal.returns-clause-teams
returns-clause-teams c = marked-teams

pub returns-clause-marks : goal.returns-clause-marks
returns-clause-marks c = marked-marks

pub returns-clause-repeat : goal.returns-clause-repeat
returns-clause-repeat c = marked-again
