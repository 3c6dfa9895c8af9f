use Rattle.fy_picture.specs.Keeping.{ListsKeepers}
use Rattle.fy_picture.proofs.keeping.keepers_of.Given as goal

-- the keeper of each record so far
abbrev pub invariant-loop-rec : goal.invariant-loop-rec
invariant-loop-rec l = ListsKeepers l.cluster l.rec l.keepers.items
