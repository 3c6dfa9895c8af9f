use Rattle.std.proofs.Common.{◌≡◌, ◌↔◌, ◌∙◌, ℕ, ◌<◌, ◌≤◌, IsTrue, true, false, true≢false, length, slice_index_or, sym, ap, subst, refl, arith}
use Rattle.fy_policy.specs.declared.shape.Shape.{Shape}
use Rattle.fy_policy.specs.Shape.{tree_of}
use Rattle.fy_policy.specs.Tree.{HasFitCounts}
use Rattle.fy_policy.proofs.Bounds.{Fit, Fit-one, Fit-across, Fit-And, one_fails, all_hold}
use Rattle.fy_policy.proofs.limits.+has_fit_counts.Goals as goal

pub returns-in-One : goal.returns-in-One
returns-in-One t c = subst (λ q. IsTrue true ↔ HasFitCounts (tree_of q)) (sym c.in-One.is) (λ _. Fit-one, λ _. refl)

pub returns-then-is_fit : goal.returns-then-is_fit
returns-then-is_fit t c =
    let n = c.in-Across.count in let q = tree_of c.in-Across.inner.value in
    let inner : IsTrue c.has_fit_counts.result ↔ HasFitCounts q = subst (λ s. IsTrue c.has_fit_counts.result ↔ HasFitCounts (tree_of s)) c.deref.ensures c.has_fit_counts.ensures in
    let fit : (1 ≤ n) × (n ≤ 1024) = c.is_fit.ensures.0 c.if-is_fit.true in
    subst (λ s. IsTrue c.has_fit_counts.result ↔ HasFitCounts (tree_of s)) (sym c.in-Across.is) (
      λ h. (Fit-across n c.in-Across.field-1 q).1 (fit.0, fit.1, inner.0 h),
      λ h. inner.1 ((Fit-across n c.in-Across.field-1 q).0 h).2,
    )

pub returns-else-is_fit : goal.returns-else-is_fit
returns-else-is_fit t c =
    let n = c.in-Across.count in let q = tree_of c.in-Across.inner.value in
    subst (λ s. IsTrue c.is_fit.result ↔ HasFitCounts (tree_of s)) (sym c.in-Across.is) (
      λ h. absurd (true≢false (sym h ∙ c.if-is_fit.false)),
      λ h. let fit = (Fit-across n c.in-Across.field-1 q).0 h in c.is_fit.ensures.1 (fit.0, fit.1),
    )

pub returns-then-not-has_fit_counts : goal.returns-then-not-has_fit_counts
returns-then-not-has_fit_counts t c =
    let same : c.deref-part-items.result.now ≡ c.in-And.parts.items = c.deref-part-items.ensures.value in
    subst (λ q. IsTrue false ↔ HasFitCounts (tree_of q)) (sym c.in-And.is)
    (one_fails _ Fit c.in-And.parts.items (Fit-And c.in-And.parts) c.loop-part.part-index c.part-item.result
    (omega (arith, ap length same)) (subst (λ qs. c.part-item.result ≡ slice_index_or qs c.loop-part.part-index c.part-item.result) same c.part-item.is)
    (λ fit. true≢false (sym (c.has_fit_counts-in-loop-part.ensures.1 fit) ∙ c.if-not-has_fit_counts.true)))

pub returns-after-loop-part : goal.returns-after-loop-part
returns-after-loop-part t c =
    let same : c.deref-part-items.result.now ≡ c.in-And.parts.items = c.deref-part-items.ensures.value in
    subst (λ q. IsTrue true ↔ HasFitCounts (tree_of q)) (sym c.in-And.is)
    (all_hold _ Fit c.in-And.parts.items (Fit-And c.in-And.parts) c.loop-part.part-index
    (omega (arith, ap length same)) (subst (λ qs. (k : ℕ) (d : Shape) → k < c.loop-part.part-index → Fit (slice_index_or qs k d)) same c.loop-part.invariant))
