use Rattle.std.proofs.Common.{◌≡◌, ◌↔◌, ◌∙◌, ℕ, ◌-◌, ◌<◌, ◌≤◌, IsTrue, true, false, true≢false, length, slice_index_or, sym, ap, subst, arith}
use Rattle.fy_policy.specs.declared.shape.Shape.{Shape}
use Rattle.fy_policy.specs.Shape.{tree_of}
use Rattle.fy_policy.specs.Tree.{depth}
use Rattle.fy_policy.proofs.Bounds.{Shallow, Shallow-And, depth_some, one_fails, all_hold}
use Rattle.fy_policy.proofs.limits.+is_within_depth.Goals as goal

pub returns-then-most-eq0 : goal.returns-then-most-eq0
returns-then-most-eq0 t c = (λ h. absurd (true≢false (sym h)), λ low. let some : 0 < depth (tree_of c.args.shape.now) = depth_some (tree_of c.args.shape.now) in absurd (omega arith))

pub returns-then-not-is_within_depth : goal.returns-then-not-is_within_depth
returns-then-not-is_within_depth t c =
    let some : 0 < c.args.most = omega arith in
    let same : c.deref-part-items.result.now ≡ c.in-And.parts.items = c.deref-part-items.ensures.value in
    subst (λ q. IsTrue false ↔ (depth (tree_of q) ≤ c.args.most)) (sym c.in-And.is)
    (one_fails _ (Shallow (c.args.most - 1)) c.in-And.parts.items (Shallow-And c.in-And.parts c.args.most some) c.loop-part.part-index c.part-item.result
    (omega (arith, ap length same)) (subst (λ qs. c.part-item.result ≡ slice_index_or qs c.loop-part.part-index c.part-item.result) same c.part-item.is)
    (λ fit. true≢false (sym (c.is_within_depth-in-loop-part.ensures.1 fit) ∙ c.if-not-is_within_depth.true)))

pub returns-after-loop-part : goal.returns-after-loop-part
returns-after-loop-part t c =
    let some : 0 < c.args.most = omega arith in
    let same : c.deref-part-items.result.now ≡ c.in-And.parts.items = c.deref-part-items.ensures.value in
    subst (λ q. IsTrue true ↔ (depth (tree_of q) ≤ c.args.most)) (sym c.in-And.is)
    (all_hold _ (Shallow (c.args.most - 1)) c.in-And.parts.items (Shallow-And c.in-And.parts c.args.most some) c.loop-part.part-index
    (omega (arith, ap length same)) (subst (λ qs. (k : ℕ) (d : Shape) → k < c.loop-part.part-index → Shallow (c.args.most - 1) (slice_index_or qs k d)) same c.loop-part.invariant))
