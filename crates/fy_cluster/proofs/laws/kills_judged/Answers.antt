use Rattle.fy_cluster.proofs.Journals.{kills_judged}
use Rattle.fy_cluster.proofs.laws.kills_judged.Goals as goal

pub returns : goal.returns
returns c = kills_judged c.verdict_answers.ensures.answers
