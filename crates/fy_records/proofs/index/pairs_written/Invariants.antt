use Rattle.std.proofs.Common.{take}
use Rattle.fy_records.specs.Pairs.{ArePairs}
use Rattle.fy_records.proofs.index.pairs_written.Given as goal

abbrev pub invariant-loop-write : goal.invariant-loop-write
invariant-loop-write l = ArePairs (take l.write-index l.writes) l.pairs.items
