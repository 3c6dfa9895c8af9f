use Rattle.std.proofs.Common.{◌<◌, List, length, sym, ◌∙◌, subst}
use Rattle.std.proofs.lemmas.List.{get_or_default}
use Rattle.fy_disk.specs.Disk.{Stored, empty_disk}
use Rattle.fy_disk.proofs.Kept.{kept_written}
use Rattle.fy_disk.proofs.disks.Disks.write.Goals as goal

pub invariant_of-self-2 : goal.invariant_of-self-2
invariant_of-self-2 c =
    let disks = c.self.inside.disks.items in
    let there = subst (λ (ds : List Stored). c.args.p.0 < length ds) (sym c.self.view_is) c.requires.there in
    let was = c.index_mut.ensures.value ∙ get_or_default disks c.args.p.0 c.index_mut.result.now empty_disk there in
    rw (c.put.ensures, c.in_ok-write.ensures.written, was)
    (kept_written disks c.self.inside.holders.items c.open.new.holders.items c.self.inside.with_unsynced c.args.p.0 c.args.item there c.self.invariant c.in-Ok.ensures.more c.in-Ok.ensures.room c.in-Ok.ensures.same)
