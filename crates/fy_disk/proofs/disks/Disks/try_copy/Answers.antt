use Rattle.fy_disk.proofs.disks.Disks.try_copy.Goals as goal

pub invariant_of-result : goal.invariant_of-result
invariant_of-result c =
    rw (c.in_ok-try_copy_each.ensures, c.deref.ensures.value, c.in_ok-from_slice.ensures.items, c.deref-2.ensures.value) c.self.invariant
