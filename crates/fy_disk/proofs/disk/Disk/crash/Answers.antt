use Rattle.std.proofs.Common.{◌+◌, ◌≤◌, List, length, take, drop, ap, ◌∙◌, arith}
use Rattle.std.proofs.lemmas.List.{length-take, length-drop}
use Rattle.fy_disk.specs.declared.item.Item.{Item}
use Rattle.fy_disk.specs.Disk.{crashed}
use Rattle.fy_disk.proofs.Survivors.{front_and_kept, crashed_is}
use Rattle.fy_disk.proofs.disk.Disk.crash.Goals as goal

pub returns : goal.returns
returns c =
    let within : c.self.inside.synced ≤ length c.deref_mut.result.now = omega (arith, ap length c.deref_mut.ensures.value) in
    let few : c.gather_survivors-kept.result ≤ length c.gather_survivors-kept.new.items = omega (arith, c.gather_survivors-kept.ensures.few) in
    let le : c.self.inside.synced + c.gather_survivors-kept.result ≤ c.self.inside.items.len =
    omega (arith, c.self.inside.items.ok.0, ap length c.deref_mut.ensures.value, c.gather_survivors-kept.ensures.few, length-take {A = Item}, length-drop {A = Item}) in
    crashed_is c.args.tear c.deref_mut.result.now c.gather_survivors-kept.new.items c.truncate.new.self.items c.self.inside.synced c.gather_survivors-kept.result within few (c.truncate.ensures.items ∙ front_and_kept _ _ _ _ _ _ _ within few le) c.gather_survivors-kept.ensures.survivors
    ∙ ap (λ (items : List Item). crashed c.args.tear (record { synced = take c.self.inside.synced items; unsynced = drop c.self.inside.synced items })) c.deref_mut.ensures.value
    ∙ ap (crashed c.args.tear) c.self.view_is
