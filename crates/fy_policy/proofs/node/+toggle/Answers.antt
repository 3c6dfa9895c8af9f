use Rattle.std.proofs.Common.{◌≡◌, ◌≤◌, not, length, slice_index_or, sym, ap, subst, ◌∙◌}
use Rattle.std.specs.Box.{with_value}
use Rattle.std.specs.Vec.{with_items}
use Rattle.fy_policy.specs.Counted.{AreCountersOf, tree_of_node, toggled, group_at}
use Rattle.fy_policy.proofs.Standing.{one-toggled, inner-right, place-fits, across-toggled, across-keyless, both, both-right, read-below, recounted-in}
use Rattle.fy_policy.proofs.node.+toggle.Goals as goal

pub returns-in-One-clause-right : goal.returns-in-One-clause-right
returns-in-One-clause-right t c = λ at s it can.
    one-toggled c.args.map.now at s c.args.p.0 c.args.joins c.args.group it.few can.known can.here it.inside can.was c.args.node.now c.in-One.counts (with_items c.in-One.counts c.recount.new.counts) c.in-One.is it.right
    (recounted-in c.in-One.counts _ c.recount.new.counts c.args.group (not c.args.joins) c.args.joins c.deref_mut.ensures.value c.recount.ensures)

pub returns-then-has_key-clause-right : goal.returns-then-has_key-clause-right
returns-then-has_key-clause-right t c = λ at s it can.
    let place : c.count_at-below.result ≡ group_at c.in-Across.places.items c.args.p.0 = c.count_at-below.ensures ∙ ap (λ xs. slice_index_or xs c.args.p.0 0) c.deref.ensures.value in
    let below = inner-right c.args.map.now at s c.args.p.0 c.args.joins c.args.group it.few can.known can.here it.inside can.was c.args.node.now _ _ c.in-Across.places c.in-Across.counts c.in-Across.inner c.in-Across.is it.right in
    let fits : group_at c.in-Across.places.items c.args.p.0 ≤ length c.args.map.now = place-fits c.args.map.now at s c.args.p.0 c.args.joins c.args.group it.few can.known can.here it.inside can.was c.args.node.now _ _ c.in-Across.places c.in-Across.counts c.in-Across.inner c.in-Across.is it.right in
    let right' =
    c.toggle.ensures.right (group_at c.in-Across.places.items) s (record { few = it.few; right = (subst (AreCountersOf c.args.map.now (group_at c.in-Across.places.items) s) (sym c.deref_mut-in-Across.ensures.value) below); inside = (subst (λ k. k ≤ length c.args.map.now) (sym place) fits) }) (record { known = can.known; here = sym place; was = can.was }) in
    across-toggled c.args.map.now at s c.args.p.0 c.args.joins c.args.group it.few can.known can.here it.inside can.was c.args.node.now c.in-Across.wanted c.in-Across.key c.in-Across.places c.in-Across.counts c.in-Across.inner c.in-Across.is it.right
    c.values_differ.ensures c.values_occur.ensures (with_items c.in-Across.counts c.recount-then-has_key.new.counts) (with_value c.in-Across.inner c.toggle.new.node) c.is_satisfied_at-before.result c.is_satisfied_at-after.result
    (sym c.has_key.ensures ∙ c.if-has_key.true)
    (read-below c.args.map.now (group_at c.in-Across.places.items) s c.deref-in-Across.result.now c.in-Across.inner.value c.count_at-below.result _ c.is_satisfied_at-before.result c.is_satisfied_at-before.ensures c.deref-in-Across.ensures place below fits)
    (read-below c.args.map.now (group_at c.in-Across.places.items) (toggled s c.args.p.0 c.args.joins) c.deref-in-Across-2.result.now c.toggle.new.node c.count_at-below.result _ c.is_satisfied_at-after.result c.is_satisfied_at-after.ensures c.deref-in-Across-2.ensures place right' fits)
    (c.toggle.ensures.tree ∙ ap tree_of_node c.deref_mut-in-Across.ensures.value)
    right'
    (recounted-in c.in-Across.counts _ c.recount-then-has_key.new.counts c.args.group c.is_satisfied_at-before.result c.is_satisfied_at-after.result c.deref_mut-then-has_key.ensures.value c.recount-then-has_key.ensures)

pub returns-else-has_key-clause-right : goal.returns-else-has_key-clause-right
returns-else-has_key-clause-right t c = λ at s it can.
    let place : c.count_at-below.result ≡ group_at c.in-Across.places.items c.args.p.0 = c.count_at-below.ensures ∙ ap (λ xs. slice_index_or xs c.args.p.0 0) c.deref.ensures.value in
    let below = inner-right c.args.map.now at s c.args.p.0 c.args.joins c.args.group it.few can.known can.here it.inside can.was c.args.node.now _ _ c.in-Across.places c.in-Across.counts c.in-Across.inner c.in-Across.is it.right in
    let fits : group_at c.in-Across.places.items c.args.p.0 ≤ length c.args.map.now = place-fits c.args.map.now at s c.args.p.0 c.args.joins c.args.group it.few can.known can.here it.inside can.was c.args.node.now _ _ c.in-Across.places c.in-Across.counts c.in-Across.inner c.in-Across.is it.right in
    let right' =
    c.toggle.ensures.right (group_at c.in-Across.places.items) s (record { few = it.few; right = (subst (AreCountersOf c.args.map.now (group_at c.in-Across.places.items) s) (sym c.deref_mut-in-Across.ensures.value) below); inside = (subst (λ k. k ≤ length c.args.map.now) (sym place) fits) }) (record { known = can.known; here = sym place; was = can.was }) in
    across-keyless c.args.map.now at s c.args.p.0 c.args.joins c.args.group it.few can.known can.here it.inside can.was c.args.node.now c.in-Across.wanted c.in-Across.key c.in-Across.places c.in-Across.counts c.in-Across.inner c.in-Across.is it.right
    (with_value c.in-Across.inner c.toggle.new.node) (sym c.has_key.ensures ∙ c.if-has_key.false) (c.toggle.ensures.tree ∙ ap tree_of_node c.deref_mut-in-Across.ensures.value) right'

pub returns-in-Both-clause-right : goal.returns-in-Both-clause-right
returns-in-Both-clause-right t c = λ at s it can.
    let parts = both c.args.map.now at s c.args.node.now c.in-Both.first c.in-Both.second c.in-Both.is it.right in
    both-right c.args.map.now at (toggled s c.args.p.0 c.args.joins) (with_value c.in-Both.first c.toggle-in-Both.new.node) (with_value c.in-Both.second c.toggle-in-Both-2.new.node)
    (c.toggle-in-Both.ensures.right at s (record { few = it.few; right = (subst (AreCountersOf c.args.map.now at s) (sym c.deref_mut-in-Both.ensures.value) parts.0); inside = it.inside }) can)
    (c.toggle-in-Both-2.ensures.right at s (record { few = it.few; right = (subst (AreCountersOf c.args.map.now at s) (sym c.deref_mut-in-Both-2.ensures.value) parts.1); inside = it.inside }) can)
