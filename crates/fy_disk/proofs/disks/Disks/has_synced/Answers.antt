use Rattle.std.proofs.Common.{◌≡◌, ◌≤◌, List, length, false, subst}
use Rattle.fy_disk.specs.Disk.{Stored}
use Rattle.fy_disk.specs.Disks.{disk_of, has_synced}
use Rattle.fy_disk.proofs.Held.{Set}
use Rattle.fy_disk.proofs.Kept.{nobody_there}
use Rattle.fy_disk.proofs.disks.Disks.has_synced.Goals as goal

pub returns-in-None : goal.returns-in-None
returns-in-None c =
    let past = subst (λ (sets : List Set). length sets ≤ c.args.rec) c.deref.ensures.value c.in-None.ensures.lookup.3 in
    subst (λ (ds : List Stored). false ≡ has_synced (disk_of ds c.args.p.0) c.args.rec) c.self.view_is
    (nobody_there c.self.inside.disks.items c.self.inside.holders.items c.self.inside.with_unsynced c.args.rec c.args.p.0 c.self.invariant past)
