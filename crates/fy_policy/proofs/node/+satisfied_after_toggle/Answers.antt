use Rattle.std.proofs.Common.{◌+◌, ◌<◌, ◌≤◌, slice_index_or, sym, ap, subst, ◌∙◌}
use Rattle.std.specs.FinSet as sets
use Rattle.fy_policy.specs.Counted.{AreCountersOf, tree_of_node, within, toggled_by}
use Rattle.fy_policy.specs.Sat.{satisfies}
use Rattle.fy_policy.proofs.Counts.{number_of}
use Rattle.fy_policy.proofs.Standing.{as_sum, both, and-yes, and-no}
use Rattle.fy_policy.proofs.Toggling.{some-toggled, halfway-first, halfway-last, halfway-keyless, across-count, across-next, across-toggled-by, is_satisfied_at-both-by, out-of-reach}
use Rattle.fy_policy.proofs.Walk.{fewer-group, fewer-dropped, no_least}
use Rattle.fy_policy.proofs.node.+satisfied_after_toggle.Goals as goal

pub returns-in-One : goal.returns-in-One
returns-in-One t c = λ at s it can.
    some-toggled c.args.map.now at c.args.group s c.args.those.now c.args.node.now c.in-One.counts c.args.joins c.in-One.is it.right it.inside can c.count_at.result
    (c.count_at.ensures ∙ ap (λ xs. slice_index_or xs c.args.group 0) c.deref.ensures.value) c.some_after.result c.some_after.ensures.joins c.some_after.ensures.goes

pub loop-p-init : goal.loop-p-init
loop-p-init t c = λ at s it can.
    halfway-first c.args.map.now at c.args.group s c.in-Across.key (tree_of_node c.in-Across.inner.value) (sets.contains c.args.those.now) c.args.joins c.count_at-count.result
    (across-count c.args.map.now at s c.args.group c.args.node.now c.in-Across.wanted c.in-Across.key c.in-Across.places c.in-Across.counts c.in-Across.inner c.in-Across.is it.right it.inside c.count_at-count.result
    (c.count_at-count.ensures ∙ ap (λ xs. slice_index_or xs c.args.group 0) c.deref-in-Across.ensures.value))

pub loop-p-smaller-in_default-peers : goal.loop-p-smaller-in_default-peers
loop-p-smaller-in_default-peers t c =
    subst (λ s. number_of (sets.contains s) 1024 < number_of (sets.contains c.loop-p.rest) 1024) (sym c.drop_one.ensures)
    (fewer-dropped c.loop-p.rest c.in-Some.p.0 c.in-Some.ensures.some.present c.in-Some.ensures.small)

pub loop-p-preserved-in_default-peers : goal.loop-p-preserved-in_default-peers
loop-p-preserved-in_default-peers t c = λ at s it can.
    halfway-keyless c.args.map.now at c.args.group s c.in-Across.key (tree_of_node c.in-Across.inner.value) (sets.contains c.args.those.now) c.args.joins c.loop-p.rest c.drop_one.new.self c.loop-p.count c.in-Some.p.0
    c.drop_one.ensures c.in_default-peers.ensures.none (c.loop-p.invariant at s it can)

pub loop-p-smaller : goal.loop-p-smaller
loop-p-smaller t c =
    fewer-group c.args.map.now c.in-Across.key (tree_of_node c.in-Across.inner.value) c.loop-p.rest c.in-Some-peers.peers c.intersection-part.result c.difference-rest.result c.in-Some.p.0 c.in-Some-peers.ensures.some.value
    c.in-Some-peers.ensures.some.had c.in-Some-peers.ensures.some.those c.intersection-part.ensures c.difference-rest.ensures c.in-Some.ensures.some.present c.in-Some.ensures.small

pub loop-p-preserved : goal.loop-p-preserved
loop-p-preserved t c = λ at s it can.
    across-next c.args.map.now at s c.args.group it.few it.inside c.args.node.now c.in-Across.wanted c.in-Across.key c.in-Across.places c.in-Across.counts c.in-Across.inner c.in-Across.is it.right
    c.args.those.now c.args.joins c.loop-p.rest c.in-Some-peers.peers c.intersection-part.result c.difference-rest.result c.in-Some.p.0 c.in-Some-peers.ensures.some.value
    c.in-Some-peers.ensures.some.had c.in-Some-peers.ensures.some.those c.intersection-part.ensures c.difference-rest.ensures can c.loop-p.count (c.loop-p.invariant at s it can) c.in-Some.ensures.some.present
    c.values_differ.ensures c.values_occur.ensures c.count_at-below.result
    (c.count_at-below.ensures ∙ ap (λ xs. slice_index_or xs c.in-Some.p.0 0) c.deref-in-Some.ensures.value)
    c.deref-in-Some-2.result.now c.deref-in-Some-2.ensures c.is_satisfied_at-before.result c.is_satisfied_at-before.ensures
    c.deref-in-Some-3.result.now c.deref-in-Some-3.ensures c.satisfied_after_toggle-after.result c.satisfied_after_toggle-after.ensures
    c.recounted-count.result (as_sum c.loop-p.count c.recounted-count.result c.is_satisfied_at-before.result c.satisfied_after_toggle-after.result c.recounted-count.ensures)

pub returns-in_default : goal.returns-in_default
returns-in_default t c = λ at s it can.
    across-toggled-by c.args.map.now at c.args.group c.args.node.now c.in-Across.wanted c.in-Across.key c.in-Across.places _ c.in-Across.inner c.in-Across.is (toggled_by s (sets.contains c.args.those.now) c.args.joins) c.loop-p.count
    (halfway-last c.args.map.now at c.args.group s c.in-Across.key (tree_of_node c.in-Across.inner.value) (sets.contains c.args.those.now) c.args.joins c.loop-p.rest c.loop-p.count
    (no_least _ _ c.least.ensures.none c.in_default.not-Some) (c.loop-p.invariant at s it can))

pub returns-then-satisfied_after_toggle : goal.returns-then-satisfied_after_toggle
returns-then-satisfied_after_toggle t c = λ at s it can.
    let parts = both c.args.map.now at s c.args.node.now c.in-Both.first c.in-Both.second c.in-Both.is it.right in
    let s' = toggled_by s (sets.contains c.args.those.now) c.args.joins in
    and-yes _ _ _ _
    (c.satisfied_after_toggle.ensures at s (record { few = it.few; right = (subst (AreCountersOf c.args.map.now at s) (sym c.deref-in-Both.ensures) parts.0); inside = it.inside }) can ∙ ap (λ n. satisfies c.args.map.now (tree_of_node n) (within c.args.map.now at c.args.group s')) c.deref-in-Both.ensures) c.if-satisfied_after_toggle.true
    (c.satisfied_after_toggle-then-satisfied_after_toggle.ensures at s (record { few = it.few; right = (subst (AreCountersOf c.args.map.now at s) (sym c.deref-then-satisfied_after_toggle.ensures) parts.1); inside = it.inside }) can ∙ ap (λ n. satisfies c.args.map.now (tree_of_node n) (within c.args.map.now at c.args.group s')) c.deref-then-satisfied_after_toggle.ensures)
    ∙ sym (is_satisfied_at-both-by c.args.map.now at c.args.group s' c.args.node.now c.in-Both.first c.in-Both.second c.in-Both.is)

pub returns-else-satisfied_after_toggle : goal.returns-else-satisfied_after_toggle
returns-else-satisfied_after_toggle t c = λ at s it can.
    let parts = both c.args.map.now at s c.args.node.now c.in-Both.first c.in-Both.second c.in-Both.is it.right in
    let s' = toggled_by s (sets.contains c.args.those.now) c.args.joins in
    and-no _ _ _
    (c.satisfied_after_toggle.ensures at s (record { few = it.few; right = (subst (AreCountersOf c.args.map.now at s) (sym c.deref-in-Both.ensures) parts.0); inside = it.inside }) can ∙ ap (λ n. satisfies c.args.map.now (tree_of_node n) (within c.args.map.now at c.args.group s')) c.deref-in-Both.ensures) c.if-satisfied_after_toggle.false
    ∙ sym (is_satisfied_at-both-by c.args.map.now at c.args.group s' c.args.node.now c.in-Both.first c.in-Both.second c.in-Both.is)

pub returns-then-is_out_of_reach : goal.returns-then-is_out_of_reach
returns-then-is_out_of_reach t c = λ at s it can.
    out-of-reach c.args.map.now at s c.args.group c.args.node.now c.in-Across.wanted c.in-Across.key c.in-Across.places c.in-Across.counts c.in-Across.inner c.in-Across.is it.right c.values_differ.ensures c.values_occur.ensures it.inside
    c.args.those.now c.args.joins can c.count_at-count.result (c.count_at-count.ensures ∙ ap (λ xs. slice_index_or xs c.args.group 0) c.deref-in-Across.ensures.value)
    (λ e. subst (λ k. c.count_at-count.result + k < c.in-Across.wanted) c.len.ensures.count (c.is_out_of_reach.ensures.joins c.if-is_out_of_reach.true e))
    (λ e. subst (λ k. c.in-Across.wanted + k ≤ c.count_at-count.result) c.len.ensures.count (c.is_out_of_reach.ensures.goes c.if-is_out_of_reach.true e))
