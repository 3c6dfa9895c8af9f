use Rattle.fy_players.specs.Storage.{is_taken}
use Rattle.fy_players.proofs.Spreads.{AreTaken}
use Rattle.fy_players.proofs.storage.spread.Given as goal

abbrev pub invariant-loop-p : goal.invariant-loop-p
invariant-loop-p l = AreTaken (is_taken l.cluster l.first l.step) l.p l.members.items
