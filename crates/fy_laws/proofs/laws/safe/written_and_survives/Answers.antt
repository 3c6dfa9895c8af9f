use Rattle.fy_laws.specs.Clusters.{six}
use Rattle.fy_laws.specs.Records.{written_and_synced}
use Rattle.fy_laws.proofs.laws.safe.written_and_survives.Goals as goal

pub returns : goal.returns
returns c = c.journals_survive.ensures six written_and_synced c.six_is_met.ensures c.written_and_synced.ensures.legal
