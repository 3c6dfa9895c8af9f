use Rattle.std.proofs.Common.{◌≡◌, ◌+◌, ◌++◌, true, ltb, string_bytes, refl, inl, inr, ap, sym, ◌∙◌, arith, rules}
use Rattle.std.proofs.lemmas.Bool.Decides.{nat_tests}
use Rattle.std.proofs.lemmas.List.{take_all}
use Rattle.fy_policy.specs.Shape.{tree_of}
use Rattle.fy_policy.specs.Tree.{every}
use Rattle.fy_policy.specs.Text.{parts_text}
use Rattle.fy_policy.proofs.Shapes.{parts_from, tree_of-And}
use Rattle.fy_policy.proofs.Texts.{pushed, closed, across_closed}
use Rattle.fy_policy.proofs.text.+push_text.Goals as goal
use Rattle.fy_policy.proofs.text.+push_text.Goals.{then-comma+in_ok-push_str-in-And-2, else-comma}

pub loop-part-preserved : goal.loop-part-preserved
loop-part-preserved t c = (
  let e : true ≡ ltb 0 (c.loop-part.part-index + 1) = grind (arith, nat_tests) in e,
  pushed (string_bytes c.push_str-in-And.new.self) (string_bytes c.loop-part.out) (string_bytes c.if-comma.out) _ c.deref-part-items.result.now c.loop-part.part-index c.part-item.result
      c.loop-part-test.true c.part-item.is c.loop-part.invariant.1 c.in_ok-push_text-in-And.ensures
      (elim c.if-comma.branch [
        | then-comma+in_ok-push_str-in-And-2 w ↦ inl (sym c.loop-part.invariant.0 ∙ w.if-comma.true, ap string_bytes w.out-is ∙ w.in_ok-push_str-in-And-2.ensures.bytes)
        | else-comma w ↦ inr (sym c.loop-part.invariant.0 ∙ w.if-comma.false, ap string_bytes w.out-is)
      ]),
)

pub returns-in_ok-push_str-in-And-3 : goal.returns-in_ok-push_str-in-And-3
returns-in_ok-push_str-in-And-3 t c =
    let same = c.deref-part-items.ensures.value in
    closed _ (string_bytes c.push_str-in-And.new.self) (string_bytes c.loop-part.out) _ c.deref-part-items.result.now (tree_of c.args.shape.now)
    (ap tree_of c.in-And.is ∙ tree_of-And c.in-And.parts ∙ ap (λ qs. every (parts_from qs)) (sym same))
    c.in_ok-push_str-in-And.ensures.bytes
    (c.loop-part.invariant.1 ∙ ap (λ qs. string_bytes c.push_str-in-And.new.self ++ parts_text (parts_from qs)) (take_all c.loop-part.part-index c.deref-part-items.result.now c.loop-part-test.false))
    c.in_ok-push_str-in-And-3.ensures.bytes

pub returns-in_ok-push_str-in-Across-5 : goal.returns-in_ok-push_str-in-Across-5
returns-in_ok-push_str-in-Across-5 t c =
    across_closed _ _ _ _ _ _ _ _ _ c.in-Across.count c.in-Across.key (tree_of c.in-Across.inner.value) (tree_of c.args.shape.now)
    (ap tree_of c.in-Across.is) refl (omega arith)
    c.in_ok-push_str-in-Across.ensures.bytes c.in_ok-write-in-Across.ensures.bytes c.in_ok-push_str-in-Across-2.ensures.bytes
    (c.in_ok-push_str-in-Across-3.ensures.bytes ∙ ap (λ s. string_bytes c.push_str-in-Across-2.new.self ++ s) c.text.ensures)
    c.in_ok-push_str-in-Across-4.ensures.bytes (search rules) c.in_ok-push_str-in-Across-5.ensures.bytes
