use Rattle.std.proofs.Common.{take}
use Rattle.fy_grants.specs.Covers.{IsCoverOf}
use Rattle.fy_grants.proofs.cover.Cover.of.Given as goal

abbrev pub invariant-loop-grant : goal.invariant-loop-grant
invariant-loop-grant l = IsCoverOf l.map (take l.grant-index l.grants) l.cover
