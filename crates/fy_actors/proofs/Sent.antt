-- that a desk may go from thread to thread
use denote.Param.Send.{IsSend, sendable, view_send}
use denote.Param.SendFields.{declared_send}
use Rattle.std.proofs.Crossing.{crosses}
use Rattle.fy_acts.proofs.entry.Entry.TheSendSync as entry
use Rattle.fy_actors.specs.contracts.desk.Desk as desk
use Rattle.fy_actors.specs.contracts.desk.Desk.TheInside as in_desk
use Rattle.fy_cluster.proofs.Sent.{cluster_send}

pub desk_send : IsSend desk.the_row
desk_send =
    let inner : IsSend in_desk.the_row =
    declared_send in_desk.the_type (
      (search (sendable, crosses) depth 20),
      (
        cluster_send,
        (
          (search (sendable, crosses) depth 20),
          ((search (entry.the_send, sendable, crosses) depth 20), tt),
        ),
      ),
    ) in
    search (inner, view_send)
