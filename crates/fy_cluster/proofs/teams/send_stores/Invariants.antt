use Rattle.std.proofs.Common.{take}
use Rattle.fy_cluster.specs.History.{stores_of}
use Rattle.fy_cluster.specs.Standing.{Sends}
use Rattle.fy_cluster.proofs.teams.send_stores.Given as goal

abbrev pub invariant-loop-p : goal.invariant-loop-p
invariant-loop-p l = Sends l.initial.net (stores_of l.rec (take l.p-index l.members)) l.net
