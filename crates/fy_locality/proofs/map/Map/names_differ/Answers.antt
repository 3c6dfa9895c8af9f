use Rattle.std.proofs.Common.{subst}
use Rattle.fy_locality.specs.Locality.{NamesDiffer}
use Rattle.fy_locality.proofs.ValueIndexes.{names_differ}
use Rattle.fy_locality.proofs.map.Map.names_differ.Goals as goal

pub returns : goal.returns
returns c = subst NamesDiffer c.self.view_is (names_differ _ c.self.invariant.own)
