use Rattle.fy_cluster.proofs.Journals.{same_acts_same_journal}
use Rattle.fy_cluster.proofs.laws.same_acts_same_journal.Goals as goal

pub returns : goal.returns
returns c = same_acts_same_journal
