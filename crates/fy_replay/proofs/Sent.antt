-- that a replay may go from thread to thread
use denote.Param.Send.{IsSend, sendable, view_send}
use denote.Param.SendFields.{declared_send}
use Rattle.std.proofs.Crossing.{crosses}
use Rattle.fy_cluster.proofs.Sent.{state_send}
use Rattle.fy_replay.specs.contracts.replaying.Replayer as replayer
use Rattle.fy_replay.specs.contracts.replaying.Replayer.TheInside as in_replayer

pub replayer_send : IsSend replayer.the_row
replayer_send =
    let inner : IsSend in_replayer.the_row =
    declared_send in_replayer.the_type (
      state_send,
      ((search (sendable, crosses) depth 20), ((search (sendable, crosses) depth 20), tt)),
    ) in
    search (inner, view_send)
