use Rattle.fy_disk.proofs.Kept.{kept_at_start}
use Rattle.fy_disk.proofs.disks.Disks.make.Goals as goal

pub invariant_of-result : goal.invariant_of-result
invariant_of-result c = rw (c.in_ok-blank_disks.ensures, c.new.ensures.items, c.empty.ensures) (kept_at_start c.args.processes c.requires)
