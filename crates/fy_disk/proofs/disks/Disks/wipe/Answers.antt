use Rattle.std.proofs.Common.{◌<◌, List, length, sym, ◌∙◌, ap, subst}
use Rattle.std.proofs.lemmas.List.{get_or_default}
use Rattle.fy_disk.specs.declared.item.Item.{Item}
use Rattle.fy_disk.specs.Disk.{Stored, empty_disk}
use Rattle.fy_disk.specs.Holders.{Loses}
use Rattle.std.specs.List.{All}
use Rattle.fy_disk.proofs.Kept.{kept_wiped, synced_room}
use Rattle.fy_disk.proofs.disks.Disks.wipe.Goals as goal

pub remove_holder-requires-clause-room : goal.remove_holder-requires-clause-room
remove_holder-requires-clause-room c =
    let disks = c.self.inside.disks.items in
    let there = subst (λ (ds : List Stored). c.args.p.0 < length ds) (sym c.self.view_is) c.requires.there in
    let was = c.index_mut-disk.ensures.value ∙ get_or_default disks c.args.p.0 c.index_mut-disk.result.now empty_disk there in
    let items = c.synced_items.ensures ∙ ap (λ (d : Stored). d.synced) was in
    subst (All (λ (item : Item). item.rec < length c.self.inside.holders.items)) (sym items) (synced_room disks c.self.inside.holders.items c.self.inside.with_unsynced c.args.p.0 c.self.invariant)

pub invariant_of-self : goal.invariant_of-self
invariant_of-self c =
    let disks = c.self.inside.disks.items in
    let there = subst (λ (ds : List Stored). c.args.p.0 < length ds) (sym c.self.view_is) c.requires.there in
    let was = c.index_mut-disk.ensures.value ∙ get_or_default disks c.args.p.0 c.index_mut-disk.result.now empty_disk there in
    let items = c.synced_items.ensures ∙ ap (λ (d : Stored). d.synced) was in
    rw (c.drop_one.ensures, c.wipe.ensures)
    (kept_wiped disks c.self.inside.holders.items c.remove_holder.new.holders.items c.self.inside.with_unsynced c.args.p.0 there c.self.invariant
    (subst (λ (xs : List Item). Loses c.args.p.0 xs c.self.inside.holders.items c.remove_holder.new.holders.items) items c.remove_holder.ensures))
