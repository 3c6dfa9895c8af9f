use Rattle.std.proofs.Common.{slice_index_or, sym, ap, subst, ◌∙◌}
use Rattle.fy_policy.specs.Counted.{AreCountersOf, tree_of_node, within}
use Rattle.fy_policy.specs.Sat.{satisfies}
use Rattle.fy_policy.proofs.Standing.{is_satisfied_at-one, is_satisfied_at-across, both, is_satisfied_at-both, and-yes, and-no}
use Rattle.fy_policy.proofs.node.+is_satisfied_at.Goals as goal

pub returns-in-One : goal.returns-in-One
returns-in-One t c = λ processes at s right inside.
    is_satisfied_at-one processes at s c.args.node.now c.in-One.counts c.args.group c.in-One.is right inside c.count_at.result (c.count_at.ensures ∙ ap (λ xs. slice_index_or xs c.args.group 0) c.deref.ensures.value)

pub returns-in-Across : goal.returns-in-Across
returns-in-Across t c = λ processes at s right inside.
    is_satisfied_at-across processes at s c.args.node.now _ _ _ _ _ c.args.group c.in-Across.is right inside c.count_at-in-Across.result (c.count_at-in-Across.ensures ∙ ap (λ xs. slice_index_or xs c.args.group 0) c.deref-in-Across.ensures.value)

pub returns-then-is_satisfied_at : goal.returns-then-is_satisfied_at
returns-then-is_satisfied_at t c = λ processes at s right inside.
    let parts = both processes at s c.args.node.now c.in-Both.first c.in-Both.second c.in-Both.is right in
    and-yes _ _ _ _
    (c.is_satisfied_at.ensures processes at s (subst (AreCountersOf processes at s) (sym c.deref-in-Both.ensures) parts.0) inside ∙ ap (λ n. satisfies processes (tree_of_node n) (within processes at c.args.group s)) c.deref-in-Both.ensures) c.if-is_satisfied_at.true
    (c.is_satisfied_at-then-is_satisfied_at.ensures processes at s (subst (AreCountersOf processes at s) (sym c.deref-then-is_satisfied_at.ensures) parts.1) inside ∙ ap (λ n. satisfies processes (tree_of_node n) (within processes at c.args.group s)) c.deref-then-is_satisfied_at.ensures)
    ∙ sym (is_satisfied_at-both processes at s c.args.node.now c.in-Both.first c.in-Both.second c.args.group c.in-Both.is)

pub returns-else-is_satisfied_at : goal.returns-else-is_satisfied_at
returns-else-is_satisfied_at t c = λ processes at s right inside.
    let parts = both processes at s c.args.node.now c.in-Both.first c.in-Both.second c.in-Both.is right in
    and-no _ _ _
    (c.is_satisfied_at.ensures processes at s (subst (AreCountersOf processes at s) (sym c.deref-in-Both.ensures) parts.0) inside ∙ ap (λ n. satisfies processes (tree_of_node n) (within processes at c.args.group s)) c.deref-in-Both.ensures) c.if-is_satisfied_at.false
    ∙ sym (is_satisfied_at-both processes at s c.args.node.now c.in-Both.first c.in-Both.second c.args.group c.in-Both.is)
