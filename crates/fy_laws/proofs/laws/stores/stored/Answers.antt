use Rattle.std.proofs.Common.{◌+◌}
use Rattle.fy_laws.specs.Clusters.{six}
use Rattle.fy_laws.specs.Stores.{stored}
use Rattle.fy_laws.proofs.Stores.{guarded, acknowledged_then}
use Rattle.fy_laws.proofs.laws.stores.stored.Goals as goal

pub returns-clause-guarded : goal.returns-clause-guarded
returns-clause-guarded c = guarded

pub returns-clause-held : goal.returns-clause-held
returns-clause-held c = λ n r. c.holders_are_left.ensures six stored c.six_is_met.ensures guarded (n + 1) r (acknowledged_then n r)
