use Rattle.fy_cluster.proofs.Journals.{fronts_legal, moments_entered, next_legal}
use Rattle.fy_cluster.proofs.laws.one_entry_more.Goals as goal

pub returns-clause-fronts : goal.returns-clause-fronts
returns-clause-fronts c = fronts_legal

pub returns-clause-steps : goal.returns-clause-steps
returns-clause-steps c = moments_entered

pub returns-clause-next : goal.returns-clause-next
returns-clause-next c = next_legal
