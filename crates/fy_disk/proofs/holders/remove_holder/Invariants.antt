use Rattle.std.proofs.Common.{take}
use Rattle.fy_disk.specs.Holders.{Loses}
use Rattle.fy_disk.proofs.holders.remove_holder.Given as goal

abbrev pub invariant-loop-item : goal.invariant-loop-item
invariant-loop-item l = Loses l.p.0 (take l.item-index l.items) l.initial.holders.items l.holders.items
