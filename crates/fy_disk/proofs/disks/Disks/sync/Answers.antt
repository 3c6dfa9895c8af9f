use Rattle.std.proofs.Common.{◌<◌, List, length, sym, ◌∙◌, ap, subst}
use Rattle.std.proofs.lemmas.List.{get_or_default}
use Rattle.fy_disk.specs.declared.item.Item.{Item}
use Rattle.fy_disk.specs.Disk.{Stored, empty_disk}
use Rattle.fy_disk.specs.Disks.{disk_of}
use Rattle.fy_disk.specs.Holders.{Gains}
use Rattle.fy_disk.proofs.Kept.{kept_gained}
use Rattle.fy_disk.proofs.disks.Disks.sync.Goals as goal

pub invariant_of-self : goal.invariant_of-self
invariant_of-self c =
    let disks = c.self.inside.disks.items in
    let there = subst (λ (ds : List Stored). c.args.p.0 < length ds) (sym c.self.view_is) c.requires.there in
    let was = c.index_mut-disk.ensures.value ∙ get_or_default disks c.args.p.0 c.index_mut-disk.result.now empty_disk there in
    let items = c.unsynced_items.ensures ∙ ap (λ (d : Stored). d.unsynced) was in
    rw (c.drop_one.ensures, c.sync.ensures.moved, was)
    (kept_gained disks c.self.inside.holders.items c.add_holder.new.holders.items c.self.inside.with_unsynced c.args.p.0 (disk_of disks c.args.p.0).unsynced there c.self.invariant
    (subst (λ (xs : List Item). Gains c.args.p.0 xs c.self.inside.holders.items c.add_holder.new.holders.items) items c.add_holder.ensures))
