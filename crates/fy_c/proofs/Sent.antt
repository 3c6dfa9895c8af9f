-- that a guard and a check may go from thread to thread
use mir.Raw.{raw as bare}
use base.Shift.{Keyless}
use base.Fml.{Fml}
use Rattle.std_alloc.specs.Box.Ownership.{box_owns}
use denote.RawPtr.{Ptr, block_ptr, null_ptr}
use denote.RattleType.{RattleType}
use denote.Memory.{lone}
use denote.Builtin.{RawPtr}
use denote.Param.Send.{IsSend, Frees, sendable, view_send, owning_send, struct_send}
use denote.Param.SendFields.{declared_send}
use denote.Struct.Struct.{exits_of}
use denote.Struct.Owning.{shape, fields, to}
use Rattle.std.proofs.Crossing.{crosses}
use Rattle.std.specs.Ptr.{if_non_null}
use Rattle.std.specs.contracts.impls.GlobalAllocator.TheImpl.{ghosts}
use Rattle.std_alloc.proofs.SendSync.{quiet, lies}
use Rattle.fy_cluster.specs.contracts.cluster.Cluster as inner
use Rattle.std.specs.contracts.alloc.Global as heap
use Rattle.fy_replay.proofs.Sent.{replayer_send}
use Rattle.fy_cluster.proofs.Sent.{config_send, cluster_send}
use Rattle.fy_c.specs.contracts.checking.Begun as begun
use Rattle.fy_c.specs.contracts.checking.Begun.TheInside as in_begun
use Rattle.fy_c.specs.contracts.checking.Check as checking
use Rattle.fy_c.specs.contracts.check_handle.FyCheck as check
use Rattle.fy_c.specs.contracts.handle.FyGuard as guard

pointer_send : IsSend RawPtr
pointer_send = search sendable

frees : Frees ghosts ghosts.dealloc_token
frees = search (sendable, crosses)

if_some : (p : Ptr) (F : Fml) → Keyless F → Keyless (if_non_null p F)
if_some (block_ptr b o) F k = k
if_some null_ptr F k = tt

-- what an open handle of such a value owns may cross
held_send : (R : RattleType) → IsSend R → (p : Ptr) (a : heap.the_row.Denot) (x : R.Denot) →
    Keyless (if_non_null p (box_owns (ghosts.dealloc_token a) R p x))
held_send R sent p a x =
    if_some p (box_owns (ghosts.dealloc_token a) R p x)
    (lies R sent p x, frees.frees a (bare (lone R.mir)) p)

pub guard_send : IsSend guard.the_row
guard_send =
    let O = guard.the_type in
    owning_send O (pointer_send, tt)
    (λ d. held_send inner.the_row cluster_send d.at d.alloc d.value)
    (λ k. quiet (to O) (exits_of k (fields O)) ((struct_send (shape O) (pointer_send, tt)).leaving k))

begun_send : IsSend begun.the_row
begun_send =
    let inside : IsSend in_begun.the_row =
    declared_send in_begun.the_type (
      (search (sendable, crosses) depth 20),
      (
        (search (sendable, crosses) depth 20),
        ((search (sendable, crosses) depth 20), (replayer_send, tt)),
      ),
    ) in
    search (inside, view_send)

checking_send : IsSend checking.the_row
checking_send = search (config_send, begun_send, sendable, crosses) depth 20

pub check_send : IsSend check.the_row
check_send =
    let O = check.the_type in
    owning_send O (pointer_send, tt)
    (λ d. held_send checking.the_row checking_send d.at d.alloc d.value)
    (λ k. quiet (to O) (exits_of k (fields O)) ((struct_send (shape O) (pointer_send, tt)).leaving k))
