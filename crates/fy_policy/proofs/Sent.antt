-- that policies and tallies may go from thread to thread
use denote.Param.Send.{IsSend, sendable, view_send}
use denote.Hole.{as_row}
use denote.Param.SendFields.{as_row_send, declared_send}
use Rattle.std.proofs.Crossing.{crosses}
use Rattle.fy_locality.proofs.map.Map.TheSendSync as map
use Rattle.fy_locality.proofs.process_set.ProcSet.TheSendSync as sets_cross
use Rattle.fy_locality.specs.contracts.process_set.ProcSet as process_set
use Rattle.fy_policy.specs.contracts.shape.Shape as shape
use Rattle.fy_policy.proofs.shape.Shape.TheLaws.TheKnot.{send-Shape, hole_send-Shape}
use Rattle.fy_policy.specs.contracts.policy.Policy as policy
use Rattle.fy_policy.specs.contracts.policy.Policy.TheInside as inside
use Rattle.fy_policy.specs.contracts.node.Node as node
use Rattle.fy_policy.proofs.node.Node.TheLaws.TheKnot.{send-Node, hole_send-Node}
use Rattle.fy_policy.specs.contracts.tally.Tally as tally
use Rattle.fy_policy.specs.contracts.tally.Tally.TheInside as in_tally

shape_send : IsSend shape.the_row
shape_send = search (send-Shape, sendable, crosses) depth 20

field_send : IsSend (as_row shape.the_field)
field_send = search (hole_send-Shape, send-Shape, as_row_send, sendable, crosses) depth 20

inside_send : IsSend inside.the_row
inside_send = declared_send inside.the_type (field_send, tt)

pub policy_send : IsSend policy.the_row
policy_send = search (inside_send, field_send, shape_send, declared_send, sendable, crosses) depth 20

node_field_send : IsSend (as_row node.the_field)
node_field_send = search (hole_send-Node, send-Node, as_row_send, sendable, crosses) depth 20

pub tally_send : IsSend tally.the_row
tally_send =
    let sets : IsSend (as_row process_set.the_field) =
    search (sets_cross.the_send, sendable, crosses) depth 20 in
    let inner : IsSend in_tally.the_row =
    declared_send in_tally.the_type
    ((search (map.the_send, map.the_sync, sendable, crosses) depth 20), (sets, (policy_send, (node_field_send, (sets, tt))))) in
    search (inner, view_send)
