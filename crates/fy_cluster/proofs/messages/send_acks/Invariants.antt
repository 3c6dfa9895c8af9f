use Rattle.std.proofs.Common.{take}
use Rattle.fy_cluster.specs.History.{acks_of}
use Rattle.fy_cluster.specs.Standing.{Sends}
use Rattle.fy_cluster.proofs.messages.send_acks.Given as goal

abbrev pub invariant-loop-place : goal.invariant-loop-place
invariant-loop-place l = Sends l.initial.net (acks_of l.process (take l.place l.disk.unsynced)) l.net
