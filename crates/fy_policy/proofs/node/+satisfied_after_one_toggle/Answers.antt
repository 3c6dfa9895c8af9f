use Rattle.std.proofs.Common.{◌≡◌, ◌≤◌, length, slice_index_or, sym, ap, subst, ◌∙◌}
use Rattle.fy_policy.specs.Counted.{AreCountersOf, tree_of_node, within, toggled, group_at}
use Rattle.fy_policy.specs.Sat.{satisfies}
use Rattle.fy_policy.proofs.Standing.{as_sum, both, and-yes, and-no, read-below, inner-right, place-fits}
use Rattle.fy_policy.proofs.Toggling.{one-alone, keyed-alone, keyless-alone, out-of-reach-alone, is_satisfied_at-both-by}
use Rattle.fy_policy.proofs.node.+satisfied_after_one_toggle.Goals as goal

pub returns-in-One : goal.returns-in-One
returns-in-One t c = λ at s it can.
    one-alone c.args.map.now at s c.args.p.0 c.args.joins c.args.group it.few can.known can.here it.inside can.was c.args.node.now c.in-One.counts c.in-One.is it.right c.count_at.result
    (c.count_at.ensures ∙ ap (λ xs. slice_index_or xs c.args.group 0) c.deref.ensures.value) c.some_after_one.result c.some_after_one.ensures

pub returns-then-has_key : goal.returns-then-has_key
returns-then-has_key t c = λ at s it can.
    let place : c.count_at-below.result ≡ group_at c.in-Across.places.items c.args.p.0 = c.count_at-below.ensures ∙ ap (λ xs. slice_index_or xs c.args.p.0 0) c.deref-then-has_key.ensures.value in
    let below = inner-right c.args.map.now at s c.args.p.0 c.args.joins c.args.group it.few can.known can.here it.inside can.was c.args.node.now _ _ c.in-Across.places c.in-Across.counts c.in-Across.inner c.in-Across.is it.right in
    let fits : group_at c.in-Across.places.items c.args.p.0 ≤ length c.args.map.now = place-fits c.args.map.now at s c.args.p.0 c.args.joins c.args.group it.few can.known can.here it.inside can.was c.args.node.now _ _ c.in-Across.places c.in-Across.counts c.in-Across.inner c.in-Across.is it.right in
    keyed-alone c.args.map.now at s c.args.p.0 c.args.joins c.args.group it.few can.known can.here it.inside can.was c.args.node.now c.in-Across.wanted c.in-Across.key c.in-Across.places c.in-Across.counts c.in-Across.inner c.in-Across.is it.right c.count_at-count.result (c.count_at-count.ensures ∙ ap (λ xs. slice_index_or xs c.args.group 0) c.deref-in-Across.ensures.value)
    c.values_differ.ensures c.values_occur.ensures (sym c.has_key.ensures ∙ c.if-has_key.true) c.is_satisfied_at-before.result c.satisfied_after_one_toggle-after.result
    (read-below c.args.map.now (group_at c.in-Across.places.items) s c.deref-then-has_key-2.result.now c.in-Across.inner.value c.count_at-below.result _ c.is_satisfied_at-before.result c.is_satisfied_at-before.ensures c.deref-then-has_key-2.ensures place below fits)
    (c.satisfied_after_one_toggle-after.ensures (group_at c.in-Across.places.items) s (record { few = it.few; right = (subst (AreCountersOf c.args.map.now (group_at c.in-Across.places.items) s) (sym c.deref-then-has_key-3.ensures) below); inside = (subst (λ k. k ≤ length c.args.map.now) (sym place) fits) }) (record { known = can.known; here = sym place; was = can.was })
    ∙ (λ i. satisfies c.args.map.now (tree_of_node (c.deref-then-has_key-3.ensures i)) (within c.args.map.now (group_at c.in-Across.places.items) (place i) (toggled s c.args.p.0 c.args.joins))))
    c.recounted.result (as_sum c.count_at-count.result c.recounted.result c.is_satisfied_at-before.result c.satisfied_after_one_toggle-after.result c.recounted.ensures)

pub returns-else-has_key : goal.returns-else-has_key
returns-else-has_key t c = λ at s it can.
    keyless-alone c.args.map.now at s c.args.p.0 c.args.joins c.args.group it.few can.known can.here it.inside can.was c.args.node.now c.in-Across.wanted c.in-Across.key c.in-Across.places c.in-Across.counts c.in-Across.inner c.in-Across.is it.right c.count_at-count.result (c.count_at-count.ensures ∙ ap (λ xs. slice_index_or xs c.args.group 0) c.deref-in-Across.ensures.value)
    (sym c.has_key.ensures ∙ c.if-has_key.false)

pub returns-then-satisfied_after_one_toggle : goal.returns-then-satisfied_after_one_toggle
returns-then-satisfied_after_one_toggle t c = λ at s it can.
    let parts = both c.args.map.now at s c.args.node.now c.in-Both.first c.in-Both.second c.in-Both.is it.right in
    let s' = toggled s c.args.p.0 c.args.joins in
    and-yes _ _ _ _
    (c.satisfied_after_one_toggle.ensures at s (record { few = it.few; right = (subst (AreCountersOf c.args.map.now at s) (sym c.deref-in-Both.ensures) parts.0); inside = it.inside }) can ∙ ap (λ n. satisfies c.args.map.now (tree_of_node n) (within c.args.map.now at c.args.group s')) c.deref-in-Both.ensures) c.if-satisfied_after_one_toggle.true
    (c.satisfied_after_one_toggle-then-satisfied_after_one_toggle.ensures at s (record { few = it.few; right = (subst (AreCountersOf c.args.map.now at s) (sym c.deref-then-satisfied_after_one_toggle.ensures) parts.1); inside = it.inside }) can ∙ ap (λ n. satisfies c.args.map.now (tree_of_node n) (within c.args.map.now at c.args.group s')) c.deref-then-satisfied_after_one_toggle.ensures)
    ∙ sym (is_satisfied_at-both-by c.args.map.now at c.args.group s' c.args.node.now c.in-Both.first c.in-Both.second c.in-Both.is)

pub returns-else-satisfied_after_one_toggle : goal.returns-else-satisfied_after_one_toggle
returns-else-satisfied_after_one_toggle t c = λ at s it can.
    let parts = both c.args.map.now at s c.args.node.now c.in-Both.first c.in-Both.second c.in-Both.is it.right in
    let s' = toggled s c.args.p.0 c.args.joins in
    and-no _ _ _
    (c.satisfied_after_one_toggle.ensures at s (record { few = it.few; right = (subst (AreCountersOf c.args.map.now at s) (sym c.deref-in-Both.ensures) parts.0); inside = it.inside }) can ∙ ap (λ n. satisfies c.args.map.now (tree_of_node n) (within c.args.map.now at c.args.group s')) c.deref-in-Both.ensures) c.if-satisfied_after_one_toggle.false
    ∙ sym (is_satisfied_at-both-by c.args.map.now at c.args.group s' c.args.node.now c.in-Both.first c.in-Both.second c.in-Both.is)

pub returns-then-is_out_of_reach : goal.returns-then-is_out_of_reach
returns-then-is_out_of_reach t c = λ at s it can.
    out-of-reach-alone c.args.map.now at s c.args.p.0 c.args.joins c.args.group it.few can.known can.here it.inside can.was c.args.node.now c.in-Across.wanted c.in-Across.key c.in-Across.places c.in-Across.counts c.in-Across.inner c.in-Across.is it.right c.count_at-count.result (c.count_at-count.ensures ∙ ap (λ xs. slice_index_or xs c.args.group 0) c.deref-in-Across.ensures.value)
    c.values_differ.ensures c.values_occur.ensures (c.is_out_of_reach.ensures.joins c.if-is_out_of_reach.true) (c.is_out_of_reach.ensures.goes c.if-is_out_of_reach.true)
