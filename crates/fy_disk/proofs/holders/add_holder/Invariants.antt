use Rattle.std.proofs.Common.{take}
use Rattle.fy_disk.specs.Holders.{Gains}
use Rattle.fy_disk.proofs.holders.add_holder.Given as goal

abbrev pub invariant-loop-item : goal.invariant-loop-item
invariant-loop-item l = Gains l.p.0 (take l.item-index l.items) l.initial.holders.items l.holders.items
