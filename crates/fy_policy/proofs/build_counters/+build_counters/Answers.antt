use Rattle.std.proofs.Common.{◌≡◌, ◌+◌, ◌≤◌, MatchOption, sym, ap, subst, ◌∙◌}
use Rattle.fy_policy.specs.declared.node.Node.{One, Across}
use Rattle.fy_policy.specs.Counted.{IsBuiltFrom, group_at}
use Rattle.fy_policy.specs.Shape.{tree_of}
use Rattle.fy_policy.specs.Tree.{IsWellFormed}
use Rattle.fy_policy.proofs.Planting.{one-build_counters, across-build_counters, joined-with, build_counters-all}
use Rattle.fy_policy.proofs.Shapes.{part_is_counted'}
use Rattle.fy_policy.proofs.build_counters.+build_counters.Goals as goal

pub returns-in_default-2 : goal.returns-in_default-2
returns-in_default-2 t c = λ counted.
    subst (λ o. MatchOption o ⊥ (IsBuiltFrom c.args.map.now (group_at c.args.places.now) (tree_of c.part-item.result))) c.in_default-2.is
    (c.in_ok-next-in-And.ensures (part_is_counted' c.args.shape.now c.in-And.parts c.deref-part-items.result.now c.loop-part.part-index c.part-item.result c.in-And.is c.deref-part-items.ensures.value counted c.loop-part-test.true c.part-item.is))

pub loop-part-preserved : goal.loop-part-preserved
loop-part-preserved t c = λ counted.
    let same : c.deref-part-items.result.now ≡ c.in-And.parts.items = c.deref-part-items.ensures.value in
    let fresh = subst (λ o. MatchOption o ⊥ (IsBuiltFrom c.args.map.now (group_at c.args.places.now) (tree_of c.part-item.result))) c.in-Some-2.is
    (c.in_ok-next-in-And.ensures (part_is_counted' c.args.shape.now c.in-And.parts c.deref-part-items.result.now c.loop-part.part-index c.part-item.result c.in-And.is same counted c.loop-part-test.true c.part-item.is)) in
    joined-with c.args.map.now (group_at c.args.places.now) c.deref-part-items.result.now c.loop-part.part-index c.part-item.result c.loop-part-test.true c.part-item.is c.in-Some-2.next fresh
    c.loop-part.so_far c.in_ok-joined-in-And.joined (c.loop-part.invariant counted) c.in_ok-joined-in-And.ensures

pub returns-in_ok-zeros-in-One : goal.returns-in_ok-zeros-in-One
returns-in_ok-zeros-in-One t c = λ counted.
    subst (λ q. IsBuiltFrom c.args.map.now (group_at c.args.places.now) (tree_of q) (One c.in_ok-zeros-in-One.field-0)) (sym c.in-One.is)
    (one-build_counters c.args.map.now (group_at c.args.places.now) c.in_ok-zeros-in-One.field-0 (c.in_ok-zeros-in-One.ensures.wide ∙ ap (λ n. n + 1) c.len.ensures.count) c.in_ok-zeros-in-One.ensures.zeros)

pub returns-in_ok-inner-in-Across-2 : goal.returns-in_ok-inner-in-Across-2
returns-in_ok-inner-in-Across-2 t c = λ counted.
    let fit : (1 ≤ c.in-Across.wanted) × (c.in-Across.wanted ≤ 1024) × IsWellFormed (tree_of c.in-Across.inner.value) = subst (λ q. IsWellFormed (tree_of q)) c.in-Across.is counted in
    let below : IsBuiltFrom c.args.map.now (group_at c.deref-in-Across.result.now) (tree_of c.deref.result.now) c.in-Some.inner =
    subst (λ o. MatchOption o ⊥ (IsBuiltFrom c.args.map.now (group_at c.deref-in-Across.result.now) (tree_of c.deref.result.now))) c.in-Some.is
    (c.in_ok-inner-in-Across.ensures (subst (λ q. IsWellFormed (tree_of q)) (sym c.deref.ensures) fit.2)) in
    let moved : IsBuiltFrom c.args.map.now (group_at c.in_ok-below-in-Across.below.items) (tree_of c.in-Across.inner.value) c.in-Some.inner =
    subst (λ q. IsBuiltFrom c.args.map.now (group_at c.in_ok-below-in-Across.below.items) (tree_of q) c.in-Some.inner) c.deref.ensures
    (subst (λ xs. IsBuiltFrom c.args.map.now (group_at xs) (tree_of c.deref.result.now) c.in-Some.inner) c.deref-in-Across.ensures.value below) in
    subst (λ q. IsBuiltFrom c.args.map.now (group_at c.args.places.now) (tree_of q) (Across c.in-Across.wanted c.in-Across.key c.in_ok-below-in-Across.below c.in_ok-counts-in-Across.counts c.in_ok-inner-in-Across-2.inner)) (sym c.in-Across.is)
    (across-build_counters c.args.map.now (group_at c.args.places.now) c.in-Across.wanted c.in-Across.key (tree_of c.in-Across.inner.value) c.in_ok-below-in-Across.below c.in_ok-counts-in-Across.counts c.in_ok-inner-in-Across-2.inner (fit.0, fit.1) c.in_ok-below-in-Across.ensures.wide
    c.in_ok-below-in-Across.ensures.leaders (subst (IsBuiltFrom c.args.map.now (group_at c.in_ok-below-in-Across.below.items) (tree_of c.in-Across.inner.value)) (sym c.in_ok-inner-in-Across-2.ensures.ok) moved)
    (c.in_ok-counts-in-Across.ensures.wide ∙ ap (λ n. n + 1) c.len-in-Across.ensures.count) c.in_ok-counts-in-Across.ensures.zeros)

pub returns-after-loop-part : goal.returns-after-loop-part
returns-after-loop-part t c = λ counted.
    build_counters-all c.args.map.now (group_at c.args.places.now) c.args.shape.now c.in-And.parts c.deref-part-items.result.now c.loop-part.part-index c.in-And.is c.deref-part-items.ensures.value c.loop-part-test.false counted
    c.loop-part.so_far (c.loop-part.invariant counted)
