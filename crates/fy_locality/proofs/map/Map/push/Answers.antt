use Rattle.std.proofs.Common.{◌≡◌, ◌∷◌, ◌++◌, ◌∙◌, [], None, length, refl, ap, sym}
use Rattle.fy_locality.specs.declared.map.ValueIndexes.{ValueIndexes}
use Rattle.fy_locality.specs.Locality.{id_refusal}
use Rattle.fy_locality.proofs.Indexes.{IsIndexed-push, IsIndexed-same, AddsToIndex-from}
use Rattle.fy_locality.proofs.map.Map.push.Goals as goal

pub invariant_of-self-2 : goal.invariant_of-self-2
invariant_of-self-2 c =
    let processes = c.self.inside.processes.items in
    let kept : ValueIndexes = record { machine = c.add_to_index.result; zone = c.add_to_index-2.result; data_hall = c.add_to_index-3.result; data_center = c.add_to_index-4.result } in
    let number : c.len.result ≡ length processes = c.len.ensures.count ∙ ap length (sym c.self.view_is) in
    let free : id_refusal processes c.args.locality.process ≡ None = ap (λ ps. id_refusal ps c.args.locality.process) c.self.view_is ∙ sym c.refusal.ensures ∙ c.in_default.is in
    IsIndexed-same (processes ++ c.args.locality ∷ []) _ _ _ _ _ (c.self.inside.places.items ++ kept ∷ []) _ _ _ _ _ _ _
    (IsIndexed-push processes c.args.locality _ _ _ _ _ _ _ _ _ _ c.self.inside.places.items kept c.self.invariant free
    (AddsToIndex-from _ _ _ _ _ _ c.add_to_index-number.ensures.notes c.reserve-2.ensures.entries number)
    (AddsToIndex-from _ _ _ _ _ _ c.add_to_index.ensures.notes c.reserve-3.ensures.entries number)
    (AddsToIndex-from _ _ _ _ _ _ c.add_to_index-2.ensures.notes c.reserve-4.ensures.entries number)
    (AddsToIndex-from _ _ _ _ _ _ c.add_to_index-3.ensures.notes c.reserve-5.ensures.entries number)
    (AddsToIndex-from _ _ _ _ _ _ c.add_to_index-4.ensures.notes c.reserve-6.ensures.entries number)
    c.add_to_index.ensures.place c.add_to_index-2.ensures.place c.add_to_index-3.ensures.place c.add_to_index-4.ensures.place)
    (c.push_reserved.ensures.items ∙ ap (λ ps. ps ++ c.args.locality ∷ []) c.reserve.ensures.items)
    refl refl refl refl refl
    (c.push_reserved-2.ensures.items ∙ ap (λ ps. ps ++ kept ∷ []) c.reserve-7.ensures.items)
