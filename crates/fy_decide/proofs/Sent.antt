-- that a dead book may go from thread to thread
use denote.Param.Send.{IsSend, sendable, view_send}
use denote.Hole.{as_row}
use denote.Param.SendFields.{declared_send}
use Rattle.std.proofs.Crossing.{crosses}
use Rattle.fy_locality.proofs.map.Map.TheSendSync as map
use Rattle.fy_locality.proofs.process_set.ProcSet.TheSendSync as sets_cross
use Rattle.fy_locality.specs.contracts.process_set.ProcSet as process_set
use Rattle.fy_decide.specs.contracts.dead_book.DeadBook as dead_book
use Rattle.fy_decide.specs.contracts.dead_book.DeadBook.TheInside as in_dead_book
use Rattle.fy_policy.proofs.Sent.{policy_send, tally_send}

pub dead_book_send : IsSend dead_book.the_row
dead_book_send =
    let sets : IsSend (as_row process_set.the_field) =
    search (sets_cross.the_send, sendable, crosses) depth 20 in
    let inner : IsSend in_dead_book.the_row =
    declared_send in_dead_book.the_type (
      (search (map.the_send, map.the_sync, sendable, crosses) depth 20),
      (
        (search (policy_send, sendable, crosses) depth 20),
        (
          sets,
          (
            sets,
            (
              (search (tally_send, sendable, crosses) depth 20),
              ((search (tally_send, sendable, crosses) depth 20), tt),
            ),
          ),
        ),
      ),
    ) in
    search (inner, view_send)
