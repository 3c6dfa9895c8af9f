use Rattle.std.proofs.Common.{rules, ◌≡◌, ◌+◌, ◌≤◌, arith, replicate, sym, subst}
use Rattle.std.proofs.lemmas.List.{length-replicate}
use Rattle.fy_locality.specs.declared.TheConstants.{MOST_PROCESSES}
use Rattle.fy_svg.specs.Marks.{AreMarked, no_mark}
use Rattle.fy_svg.proofs.Places.{begun_marked}
use Rattle.fy_svg.proofs.glyphs.Open.begin.Goals as goal

pub invariant_of-result : goal.invariant_of-result
invariant_of-result c =
    let n = c.min.result in
    let made : c.in_ok-vec.field-0.items ≡ replicate n no_mark = c.in_ok-vec.ensures.items_if_clones_equal (λ y is. search rules) in
    let few : n ≤ MOST_PROCESSES + 1 = let least = c.min.ensures in omega arith in
    subst (λ ms. AreMarked ms c.empty.result) (sym made)
    (subst (AreMarked (replicate n no_mark)) (sym c.empty.ensures) (begun_marked n few (length-replicate n no_mark)))
