use Rattle.std.proofs.Common.{◌<◌, List, length, sym, ◌∙◌, ap, subst}
use Rattle.std.proofs.lemmas.List.{get_or_default}
use Rattle.fy_disk.specs.declared.item.Item.{Item}
use Rattle.fy_disk.specs.Disk.{Stored, empty_disk, survivors}
use Rattle.fy_disk.specs.Disks.{disk_of}
use Rattle.fy_disk.specs.Holders.{Gains}
use Rattle.std.specs.List.{All}
use Rattle.fy_disk.proofs.Kept.{kept_gained, behind_synced, crash_room}
use Rattle.fy_disk.proofs.disks.Disks.crash.Goals as goal

pub add_holder-requires-clause-room : goal.add_holder-requires-clause-room
add_holder-requires-clause-room c =
    let disks = c.self.inside.disks.items in
    let there = subst (λ (ds : List Stored). c.args.p.0 < length ds) (sym c.self.view_is) c.requires.there in
    let was = c.index_mut-disk.ensures.value ∙ get_or_default disks c.args.p.0 c.index_mut-disk.result.now empty_disk there in
    let items = behind_synced c.index_mut-disk.result.now.synced (survivors c.args.tear c.index_mut-disk.result.now.unsynced) c.synced_items.result.now c.synced_len-before.result (c.synced_items.ensures ∙ ap (λ (d : Stored). d.synced) c.crash.ensures) c.synced_len-before.ensures
    ∙ ap (λ (d : Stored). survivors c.args.tear d.unsynced) was in
    subst (All (λ (item : Item). item.rec < length c.self.inside.holders.items)) (sym items) (crash_room disks c.self.inside.holders.items c.self.inside.with_unsynced c.args.p.0 c.args.tear c.self.invariant)

pub invariant_of-self : goal.invariant_of-self
invariant_of-self c =
    let disks = c.self.inside.disks.items in
    let there = subst (λ (ds : List Stored). c.args.p.0 < length ds) (sym c.self.view_is) c.requires.there in
    let was = c.index_mut-disk.ensures.value ∙ get_or_default disks c.args.p.0 c.index_mut-disk.result.now empty_disk there in
    let items = behind_synced c.index_mut-disk.result.now.synced (survivors c.args.tear c.index_mut-disk.result.now.unsynced) c.synced_items.result.now c.synced_len-before.result (c.synced_items.ensures ∙ ap (λ (d : Stored). d.synced) c.crash.ensures) c.synced_len-before.ensures
    ∙ ap (λ (d : Stored). survivors c.args.tear d.unsynced) was in
    rw (c.drop_one.ensures, c.crash.ensures, was)
    (kept_gained disks c.self.inside.holders.items c.add_holder.new.holders.items c.self.inside.with_unsynced c.args.p.0 (survivors c.args.tear (disk_of disks c.args.p.0).unsynced) there c.self.invariant
    (subst (λ (xs : List Item). Gains c.args.p.0 xs c.self.inside.holders.items c.add_holder.new.holders.items) items c.add_holder.ensures))
