-- that configurations and clusters may go from thread to thread
use denote.Param.Send.{IsSend, sendable, view_send}
use denote.Param.SendFields.{declared_send}
use Rattle.std.proofs.Crossing.{crosses}
use Rattle.fy_locality.proofs.map.Map.TheSendSync as map
use Rattle.fy_grants.proofs.grant.Grant.TheSendSync as grant
use Rattle.fy_grants.proofs.book.Book.TheSendSync as book
use Rattle.fy_disk.proofs.disks.Disks.TheSendSync as disks
use Rattle.fy_net.proofs.net.Net.TheSendSync as net
use Rattle.fy_team.proofs.teams.Teams.TheSendSync as teams
use Rattle.fy_acts.proofs.journal.Journal.TheSendSync as journal
use Rattle.fy_cluster.specs.contracts.config.Config as config
use Rattle.fy_cluster.specs.contracts.machine.Machine as machine
use Rattle.fy_cluster.specs.contracts.trail.Trail as trail
use Rattle.fy_cluster.specs.contracts.trail.Trail.TheInside as in_trail
use Rattle.fy_cluster.specs.contracts.cluster_state.ClusterState as state
use Rattle.fy_cluster.specs.contracts.cluster_state.ClusterState.TheInside as in_state
use Rattle.fy_cluster.specs.contracts.cluster.Cluster as cluster
use Rattle.fy_cluster.specs.contracts.cluster.Cluster.TheInside as in_cluster
use Rattle.fy_policy.proofs.Sent.{policy_send}
use Rattle.fy_decide.proofs.Sent.{dead_book_send}

pub config_send : IsSend config.the_row
config_send = search (map.the_send, policy_send, grant.the_send, sendable, crosses) depth 20

machine_send : IsSend machine.the_row
machine_send =
    search (
      dead_book_send,
      book.the_send,
      disks.the_send,
      net.the_send,
      teams.the_send,
      sendable,
      crosses,
    ) depth 20

trail_send : IsSend trail.the_row
trail_send =
    let inner : IsSend in_trail.the_row =
    declared_send in_trail.the_type ((search (sendable, crosses) depth 20), tt) in
    search (inner, view_send)

pub state_send : IsSend state.the_row
state_send =
    let inner : IsSend in_state.the_row =
    declared_send in_state.the_type (
      (search (sendable, crosses) depth 20),
      (config_send, (trail_send, (machine_send, tt))),
    ) in
    search (inner, view_send)

pub cluster_send : IsSend cluster.the_row
cluster_send =
    let inner : IsSend in_cluster.the_row =
    declared_send in_cluster.the_type (
      (search (sendable, crosses) depth 20),
      (state_send, (journal.the_send, tt)),
    ) in
    search (inner, view_send)
