use Rattle.std.proofs.Common.{◌≡◌, ◌≢◌, inl, inr, ◌≤◌, ◌<◌, ◌+◌, ℕ, length, slice_index_or, true, sym, ap, subst, ◌∙◌, arith}
use Rattle.std.specs.FinSet as sets
use Rattle.std.proofs.lemmas.Bool.{cases_eq}
use Rattle.std.proofs.lemmas.List.{get_or_default}
use Rattle.fy_policy.specs.Counted.{passing}
use Rattle.fy_policy.specs.Sat.{satisfies}
use Rattle.fy_policy.specs.Shape.{tree_of}
use Rattle.fy_policy.proofs.Counts.{number_of}
use Rattle.fy_policy.proofs.Shapes.{satisfies-And, part_is_counted', all_pass, one_fails}
use Rattle.fy_policy.proofs.Walk.{passing-keyless, passing-group, passing-empty, fewer-group, fewer-dropped, satisfies-across, one_more, none_more, enough, too_few, no_least}
use Rattle.fy_policy.proofs.satisfaction.+satisfaction.Goals as goal

pub has_values-loop-p-smaller-in_default-peers : goal.has_values-loop-p-smaller-in_default-peers
has_values-loop-p-smaller-in_default-peers t c =
    subst (λ s. number_of (sets.contains s) 1024 < number_of (sets.contains c.loop-p.rest) 1024) (sym c.drop_one.ensures)
    (fewer-dropped c.loop-p.rest c.in-Some.p.0 c.in-Some.ensures.some.present c.in-Some.ensures.small)

pub has_values-loop-p-preserved-in_default-peers : goal.has_values-loop-p-preserved-in_default-peers
has_values-loop-p-preserved-in_default-peers t c = record {
  fits = c.loop-p.invariant.fits;
  counts = λ some formed. record {
    all =
        ap (λ n. c.loop-p.found + n)
        (ap (λ s. passing c.args.map.now c.args.key (tree_of c.args.inner.now) (sets.contains s)) c.drop_one.ensures
        ∙ passing-keyless c.args.map.now c.args.key (tree_of c.args.inner.now) c.loop-p.rest c.in-Some.p.0 c.in_default-peers.ensures.none)
        ∙ (c.loop-p.invariant.counts some formed).all;
    few = (c.loop-p.invariant.counts some formed).few;
  };
}

pub has_values-returns-then-found-wanted : goal.has_values-returns-then-found-wanted
has_values-returns-then-found-wanted t c = λ some formed.
    enough c.args.wanted c.loop-p.found _ _ c.if-found-wanted.true
    (one_more _ _ _ _ c.args.wanted _ (c.loop-p.invariant.counts some formed).all
    (passing-group c.args.map.now c.args.key (tree_of c.args.inner.now) c.loop-p.rest c.in-Some-peers.peers c.intersection-group.result c.difference-rest.result c.in-Some.p.0 c.in-Some-peers.ensures.some.value
    c.in-Some-peers.ensures.some.had c.in-Some-peers.ensures.some.those c.intersection-group.ensures c.difference-rest.ensures c.values_differ.ensures c.values_occur.ensures formed)
    (sym (c.shape_satisfied.ensures formed) ∙ c.if-shape_satisfied.true))
    ∙ sym (satisfies-across c.args.map.now c.args.wanted c.args.key (tree_of c.args.inner.now) (sets.contains c.args.set.now))

pub has_values-loop-p-smaller-else-found-wanted : goal.has_values-loop-p-smaller-else-found-wanted
has_values-loop-p-smaller-else-found-wanted t c =
    fewer-group c.args.map.now c.args.key (tree_of c.args.inner.now) c.loop-p.rest c.in-Some-peers.peers c.intersection-group.result c.difference-rest.result c.in-Some.p.0 c.in-Some-peers.ensures.some.value
    c.in-Some-peers.ensures.some.had c.in-Some-peers.ensures.some.those c.intersection-group.ensures c.difference-rest.ensures c.in-Some.ensures.some.present c.in-Some.ensures.small

pub has_values-loop-p-preserved-else-found-wanted : goal.has_values-loop-p-preserved-else-found-wanted
has_values-loop-p-preserved-else-found-wanted t c = record {
  fits = (let few : c.loop-p.found + 1 < c.args.wanted = c.if-found-wanted.false in omega arith);
  counts = λ some formed. record {
    all =
        one_more _ _ _ _ c.args.wanted _ (c.loop-p.invariant.counts some formed).all
        (passing-group c.args.map.now c.args.key (tree_of c.args.inner.now) c.loop-p.rest c.in-Some-peers.peers c.intersection-group.result c.difference-rest.result c.in-Some.p.0 c.in-Some-peers.ensures.some.value
        c.in-Some-peers.ensures.some.had c.in-Some-peers.ensures.some.those c.intersection-group.ensures c.difference-rest.ensures c.values_differ.ensures c.values_occur.ensures formed)
        (sym (c.shape_satisfied.ensures formed) ∙ c.if-shape_satisfied.true);
    few = c.if-found-wanted.false;
  };
}

pub has_values-loop-p-smaller : goal.has_values-loop-p-smaller
has_values-loop-p-smaller t c =
    fewer-group c.args.map.now c.args.key (tree_of c.args.inner.now) c.loop-p.rest c.in-Some-peers.peers c.intersection-group.result c.difference-rest.result c.in-Some.p.0 c.in-Some-peers.ensures.some.value
    c.in-Some-peers.ensures.some.had c.in-Some-peers.ensures.some.those c.intersection-group.ensures c.difference-rest.ensures c.in-Some.ensures.some.present c.in-Some.ensures.small

pub has_values-loop-p-preserved : goal.has_values-loop-p-preserved
has_values-loop-p-preserved t c = record {
  fits = c.loop-p.invariant.fits;
  counts = λ some formed. record {
    all =
        none_more _ _ _ _ _ (c.loop-p.invariant.counts some formed).all
        (passing-group c.args.map.now c.args.key (tree_of c.args.inner.now) c.loop-p.rest c.in-Some-peers.peers c.intersection-group.result c.difference-rest.result c.in-Some.p.0 c.in-Some-peers.ensures.some.value
        c.in-Some-peers.ensures.some.had c.in-Some-peers.ensures.some.those c.intersection-group.ensures c.difference-rest.ensures c.values_differ.ensures c.values_occur.ensures formed)
        (sym (c.shape_satisfied.ensures formed) ∙ c.if-shape_satisfied.false);
    few = (c.loop-p.invariant.counts some formed).few;
  };
}

pub has_values-returns : goal.has_values-returns
has_values-returns t c = λ some formed.
    too_few c.args.wanted c.loop-p.found _ _ (c.loop-p.invariant.counts some formed).few (c.loop-p.invariant.counts some formed).all
    (passing-empty c.args.map.now c.args.key (tree_of c.args.inner.now) c.loop-p.rest formed (no_least _ _ c.least.ensures.none c.in_default.not-Some))
    ∙ sym (satisfies-across c.args.map.now c.args.wanted c.args.key (tree_of c.args.inner.now) (sets.contains c.args.set.now))

pub shape_satisfied-loop-part-preserved : goal.shape_satisfied-loop-part-preserved
shape_satisfied-loop-part-preserved t c = λ counted k d below. elim (cases_eq k c.loop-part.part-index) [
  | inl here ↦
      let same : c.deref-part-items.result.now ≡ c.in-And.parts.items = c.deref-part-items.ensures.value in
      ap (λ j. satisfies c.args.map.now (tree_of (slice_index_or c.deref-part-items.result.now j d)) (sets.contains c.args.set.now)) here
      ∙ ap (λ q. satisfies c.args.map.now (tree_of q) (sets.contains c.args.set.now)) (get_or_default c.deref-part-items.result.now c.loop-part.part-index d c.part-item.result c.loop-part-test.true ∙ sym c.part-item.is)
      ∙ sym (c.shape_satisfied.ensures (part_is_counted' c.args.shape.now c.in-And.parts c.deref-part-items.result.now c.loop-part.part-index c.part-item.result c.in-And.is same counted c.loop-part-test.true c.part-item.is))
      ∙ c.if-not-shape_satisfied.false
  | inr other ↦ c.loop-part.invariant counted k d (lower k c.loop-part.part-index below other)
]
  where
    lower : (k n : ℕ) → k < n + 1 → k ≢ n → k < n
    lower k n h ne = omega arith

pub shape_satisfied-returns-then-not-shape_satisfied : goal.shape_satisfied-returns-then-not-shape_satisfied
shape_satisfied-returns-then-not-shape_satisfied t c = λ counted.
    let same : c.deref-part-items.result.now ≡ c.in-And.parts.items = c.deref-part-items.ensures.value in
    sym (ap (λ q. satisfies c.args.map.now (tree_of q) (sets.contains c.args.set.now)) c.in-And.is
    ∙ satisfies-And c.args.map.now (sets.contains c.args.set.now) c.in-And.parts
    ∙ one_fails (λ q. satisfies c.args.map.now (tree_of q) (sets.contains c.args.set.now)) c.in-And.parts.items c.loop-part.part-index c.part-item.result
    (subst (λ qs. c.loop-part.part-index < length qs) same c.loop-part-test.true)
    (c.part-item.is ∙ ap (λ qs. slice_index_or qs c.loop-part.part-index c.part-item.result) same) (sym (c.shape_satisfied.ensures (part_is_counted' c.args.shape.now c.in-And.parts c.deref-part-items.result.now c.loop-part.part-index c.part-item.result c.in-And.is same counted c.loop-part-test.true c.part-item.is)) ∙ c.if-not-shape_satisfied.true))

pub shape_satisfied-returns-after-loop-part : goal.shape_satisfied-returns-after-loop-part
shape_satisfied-returns-after-loop-part t c = λ counted.
    let same : c.deref-part-items.result.now ≡ c.in-And.parts.items = c.deref-part-items.ensures.value in
    sym (ap (λ q. satisfies c.args.map.now (tree_of q) (sets.contains c.args.set.now)) c.in-And.is
    ∙ satisfies-And c.args.map.now (sets.contains c.args.set.now) c.in-And.parts
    ∙ all_pass (λ q. satisfies c.args.map.now (tree_of q) (sets.contains c.args.set.now)) c.in-And.parts.items (λ k d h.
    subst (λ qs. satisfies c.args.map.now (tree_of (slice_index_or qs k d)) (sets.contains c.args.set.now) ≡ true) same
    (c.loop-part.invariant counted k d (past k _ _ _ h (ap length same) c.loop-part-test.false))))
  where
    past : (k n m i : ℕ) → k < m → n ≡ m → n ≤ i → k < i
    past k n m i h e f = omega arith
