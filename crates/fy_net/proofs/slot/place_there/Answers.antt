use Rattle.std.proofs.Common.{rules}
use Rattle.std.proofs.lemmas.List.Sorted.{answers_always}
use Rattle.fy_net.proofs.Slots.{number_found, number_missing, chosen, chosen_none}
use Rattle.fy_net.proofs.slot.place_there.Goals as goal

pub returns-clause-found : goal.returns-clause-found
returns-clause-found c =
    let by_number = c.in-Ok.ensures.position (λ slot. slot.message.number) (answers_always _ _ _ (λ f a r g called. search rules)) in
    rw c.then_some.ensures (chosen _ c.requires c.args.number c.in-Ok.place c.in-Ok.ensures.bound (number_found _ c.requires c.args.number c.in-Ok.place by_number) _)

pub returns-clause-missing : goal.returns-clause-missing
returns-clause-missing c =
    let by_number = c.in-Ok.ensures.position (λ slot. slot.message.number) (answers_always _ _ _ (λ f a r g called. search rules)) in
    rw c.then_some.ensures (chosen_none _ c.requires c.args.number c.in-Ok.place c.in-Ok.ensures.bound (number_found _ c.requires c.args.number c.in-Ok.place by_number) _)

pub returns-in_default-clause-missing : goal.returns-in_default-clause-missing
returns-in_default-clause-missing c =
    let by_number = c.in_default.ensures.position (λ slot. slot.message.number) (answers_always _ _ _ (λ f a r g called. search rules)) in
    number_missing _ c.requires c.args.number c.in_default.field-0 c.in_default.ensures.bound by_number
