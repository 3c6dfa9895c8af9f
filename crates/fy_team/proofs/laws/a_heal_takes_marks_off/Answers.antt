use Rattle.fy_team.proofs.Marking.{healed-marks, healed-acked, healed-teams, healed-payloads}
use Rattle.fy_team.proofs.laws.a_heal_takes_marks_off.Goals as goal

pub returns-clause-marks : goal.returns-clause-marks
returns-clause-marks c = healed-marks

pub returns-clause-acked : goal.returns-clause-acked
returns-clause-acked c = healed-acked

pub returns-clause-teams : goal.returns-clause-teams
returns-clause-teams c = healed-teams

pub returns-clause-payloads : goal.returns-clause-payloads
returns-clause-payloads c = healed-payloads
