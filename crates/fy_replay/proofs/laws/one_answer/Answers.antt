use Rattle.fy_replay.proofs.Fronts.{one_answer, legal_is_ok}
use Rattle.fy_replay.proofs.laws.one_answer.Goals as goal

pub returns-clause-same : goal.returns-clause-same
returns-clause-same c = one_answer c.one_entry_more.ensures.fronts

pub returns-clause-legal : goal.returns-clause-legal
returns-clause-legal c = legal_is_ok c.one_entry_more.ensures.fronts
