use Rattle.std.proofs.Common.{◌<◌, length, sym, subst, arith}
use Rattle.std.proofs.lemmas.List.Elements.{All-get_or}
use Rattle.fy_disk.specs.declared.item.Item.{Item}
use Rattle.fy_disk.proofs.Held.{gains_more}
use Rattle.fy_disk.proofs.holders.add_holder.Goals as goal

pub loop-item-preserved : goal.loop-item-preserved
loop-item-preserved c =
    let within = subst (λ (item : Item). item.rec < length c.args.holders.now.items) (sym c.item-item.is) (All-get_or (λ item. item.rec < length c.args.holders.now.items) c.args.items.now c.loop-item.item-index c.item-item.result c.loop-item-test.true c.requires.room) in
    rw c.put.ensures
    (gains_more c.args.p.0 c.loop-item.item-index c.args.items.now c.item-item.result c.index_mut.result.now c.args.holders.now.items c.loop-item.holders.items c.loop-item-test.true c.item-item.is
    (omega (arith, within, c.loop-item.invariant.count))
    c.index_mut.ensures.value
    c.loop-item.invariant)
