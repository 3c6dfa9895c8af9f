-- what may go from thread to thread of shared clusters: each type from those that it is made of
use denote.Param.Send.{IsSend, IsSync, sendable, view_send, view_sync}
use denote.Hole.{as_row}
use denote.Param.SendFields.{as_row_send, as_row_sync, declared_send, declared_sync}
use mathlib.Core.List.{[], ◌∷◌}
use mir.Syntax.{Dict, Slots, Sym}
use denote.RattleType.{RattleType}
use denote.Ref.{NamedLft}
use denote.Param.{param}
use denote.Param.Send.{param_sync, shr_sync}
use denote.Param.Sent.{Sends, code_send}
use denote.Param.Table.{Table, Lawful}
use denote.Param.Object.{Ghosts, Vt, ghosts_of, table_of}
use denote.Struct.Field.{row_field, shr_ref_field, u32-field}
use denote.Struct.Tuple.{TupleAt, type_at}
use Rattle.std.proofs.Crossing.{crosses, dyn_box_send}
use Rattle.fy_acts.proofs.entry.Entry.TheSendSync as entry
use Rattle.atomic_table.proofs.shared.Seat.TheSendSync as place
use Rattle.atomic_table.proofs.shared.Shared.TheSendSync as steps
use Rattle.atomic_table.proofs.owned.Table.TheSendSync as table
use Rattle.fy_shared.specs.contracts.yard.Seat as seat
use Rattle.fy_shared.specs.contracts.yard.Seat.TheInside as in_seat
use Rattle.fy_shared.specs.contracts.yard.Shared as shared
use Rattle.fy_shared.specs.contracts.yard.Shared.TheInside as in_shared
use Rattle.fy_shared.specs.contracts.posts.Post as post
use Rattle.std.specs.contracts.dyn_box.DynBox as object
use Rattle.std.specs.contracts.alloc.Global as heap
use Rattle.std.specs.contracts.impls.GlobalAllocator.TheImpl.{ghosts as heap_ghosts}
use Rattle.fy_shared.proofs.posts.End.TheSendSync as end
use Rattle.fy_actors.proofs.Sent.{desk_send}

pub seat_send : IsSend seat.the_row
seat_send =
    let inner : IsSend in_seat.the_row =
    declared_send in_seat.the_type (
      (search (sendable, crosses) depth 20),
      (
        (search (entry.the_send, sendable, crosses) depth 20),
        ((search (desk_send, place.the_send, sendable, crosses) depth 20), tt),
      ),
    ) in
    search (inner, view_send)

pub shared_sync : IsSync shared.the_row
shared_sync =
    let inner : IsSync in_shared.the_row =
    declared_sync in_shared.the_type (
      (search (desk_send, table.the_sync, steps.the_sync, sendable, crosses) depth 20),
      (
        (search (sendable, crosses) depth 20),
        ((search (sendable, crosses) depth 20), tt),
      ),
    ) in
    search (inner, view_sync)

post_over : (D : RattleType) (g : Ghosts D.Denot) → Sends (table_of D.Denot g) → IsSend D
    → IsSend (post.the_row D g)
post_over D g s d =
    let actor : IsSend (as_row (object.the_field D heap.the_row g heap_ghosts)) =
    as_row_send (object.the_field D heap.the_row g heap_ghosts) (dyn_box_send D g s d) in
    declared_send (post.the_type D g) (seat_send, (actor, (end.the_send, tt)))

pub post_send : {G : Type 0 → Type 1} (slots : Dict → Slots) (T : Table G Dict) (L : Lawful T)
    → Sends T → IsSend (post.the_row (Vt slots T) (ghosts_of slots T L))
post_send slots T L s =
    post_over (Vt slots T) (ghosts_of slots T L) s (code_send T.I T.coded _)

-- what a post's work reads: the threads, the cluster, the gate and the limit
pub work_sync : (ν : Sym) (R G : RattleType) (a b c d : NamedLft) → IsSync R → IsSync G
    → IsSync (TupleAt ν (
    (shr_ref_field a (param 0 R) tt).row
    ∷ (shr_ref_field b shared.the_row tt).row
    ∷ (shr_ref_field c (param 1 G) tt).row
    ∷ (shr_ref_field d (u32-field).row tt).row
    ∷ []))
work_sync ν R G a b c d r s =
    declared_sync (type_at ν (
    (shr_ref_field a (param 0 R) tt).row
    ∷ (shr_ref_field b shared.the_row tt).row
    ∷ (shr_ref_field c (param 1 G) tt).row
    ∷ (shr_ref_field d (u32-field).row tt).row
    ∷ [])) (
      as_row_sync (row_field (shr_ref_field a (param 0 R) tt).row)
          (shr_sync a.mir a.lft (param 0 R) (param_sync 0 R r)),
      (
        as_row_sync (row_field (shr_ref_field b shared.the_row tt).row)
            (shr_sync b.mir b.lft shared.the_row shared_sync),
        (
          as_row_sync (row_field (shr_ref_field c (param 1 G) tt).row)
              (shr_sync c.mir c.lft (param 1 G) (param_sync 1 G s)),
          (
            as_row_sync (row_field (shr_ref_field d (u32-field).row tt).row)
                (shr_sync d.mir d.lft (u32-field).row (search sendable depth 20)),
            tt,
          ),
        ),
      ),
    )
