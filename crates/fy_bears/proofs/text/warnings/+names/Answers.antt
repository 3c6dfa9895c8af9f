use Rattle.std.proofs.Common.{◌≡◌, ◌∙◌, ℕ, ◌<◌, false, length, slice_index_or, sym, ap, subst, arith}
use Rattle.fy_policy.specs.declared.shape.Shape.{Shape}
use Rattle.fy_policy.specs.Shape.{tree_of}
use Rattle.fy_policy.proofs.Shapes.{tree_of-And}
use Rattle.fy_bears.specs.Warnings.{names}
use Rattle.fy_bears.proofs.Naming.{none_names, one_names}
use Rattle.fy_bears.proofs.text.warnings.+names.Goals as goal

pub returns-then-names : goal.returns-then-names
returns-then-names t c =
    let same : c.deref-part-items.result.now ≡ c.in-And.parts.items = c.deref-part-items.ensures.value in
    sym (ap (λ q. names c.args.key (tree_of q)) c.in-And.is
    ∙ ap (names c.args.key) (tree_of-And c.in-And.parts)
    ∙ one_names c.args.key c.in-And.parts.items c.loop-part.part-index c.part-item.result
    (omega (arith, ap length same)) (subst (λ qs. c.part-item.result ≡ slice_index_or qs c.loop-part.part-index c.part-item.result) same c.part-item.is)
    (sym c.names-in-loop-part.ensures ∙ c.if-names.true))

pub returns-after-loop-part : goal.returns-after-loop-part
returns-after-loop-part t c =
    let same : c.deref-part-items.result.now ≡ c.in-And.parts.items = c.deref-part-items.ensures.value in
    let none : (k : ℕ) (d : Shape) → k < length c.in-And.parts.items → names c.args.key (tree_of (slice_index_or c.in-And.parts.items k d)) ≡ false =
    (λ k d h. subst (λ qs. names c.args.key (tree_of (slice_index_or qs k d)) ≡ false) same (c.loop-part.invariant k d (omega (arith, ap length same)))) in
    sym (ap (λ q. names c.args.key (tree_of q)) c.in-And.is
    ∙ ap (names c.args.key) (tree_of-And c.in-And.parts)
    ∙ none_names c.args.key c.in-And.parts.items none)
