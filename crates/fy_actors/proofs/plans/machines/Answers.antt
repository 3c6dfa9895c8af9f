use Rattle.std.proofs.Common.{◌≡◌, ◌∙◌, sym, ap, take, ◌++◌, ◌∷◌, [], Some}
use Rattle.std.proofs.lemmas.List.{take_more}
use Rattle.std.proofs.lemmas.Option.{slice_get_within, get_or_from_slice_get}
use Rattle.std.specs.Prelude.{slice_get}
use Rattle.fy_locality.specs.declared.key.Key.TheVariants.{Machine}
use Rattle.fy_locality.specs.Locality.{values_of}
use Rattle.fy_actors.proofs.plans.machines.Goals as goal

pub loop-index-preserved : goal.loop-index-preserved
loop-index-preserved c =
    let names = values_of c.args.map.now Machine in
    let i = c.loop-index.index in
    let x = c.in-Some.machine in
    let there : slice_get names i ≡ Some x = cc in
    c.in_ok-push.ensures.items
    ∙ ap (λ xs. xs ++ x ∷ []) c.loop-index.invariant
    ∙ ap (λ y. take i names ++ y ∷ []) (sym (get_or_from_slice_get names i x x there))
    ∙ sym (take_more names i x (slice_get_within names i x there))
