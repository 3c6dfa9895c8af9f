use denote.Exit.{no}
use denote.Param.Send.{IsSync, arg_send, arg_sync, param_send, param_sync}
use Rattle.std.proofs.Common.{rules, ◌≡◌, length}
use Rattle.fy_shared.proofs.Parting.{all_beside}
use Rattle.fy_shared.proofs.Sent.{post_send, work_sync}
use Rattle.fy_shared.specs.contracts.posts.run_actors.dyn-1 as object
use Rattle.fy_shared.proofs.posts.run_actors.Goals as goal

pub for_each_mut-requires-send-T : goal.for_each_mut-requires-send-T
for_each_mut-requires-send-T g c κs within =
    param_send 1 _ (arg_send _ no _
    (post_send (object.slots g.row.R g.row.G) g.dyn-1.0 g.dyn-1.1 g.dyn-1.2))

pub for_each_mut-requires-sync-F : goal.for_each_mut-requires-sync-F
for_each_mut-requires-sync-F g c κs within =
    let threads : IsSync g.row.R = record { shared = c.type_bounds.sync-R.shared } in
    let gate : IsSync g.row.G = record { shared = c.type_bounds.sync-G.shared } in
    param_sync 2 _ (arg_sync _ no _ (work_sync _ g.row.R g.row.G _ _ _ _ threads gate))

pub returns : goal.returns
returns g c =
    let long : length c.for_each_mut.new.s ≡ length c.args.posts.now = search rules in
    all_beside _ c.args.posts.now c.for_each_mut.new.s long
    (λ i d within. let each = c.for_each_mut.ensures i d within in search rules)
