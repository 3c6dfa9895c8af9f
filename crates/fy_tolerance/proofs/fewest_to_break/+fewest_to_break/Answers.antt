use Rattle.std.proofs.Common.{◌≡◌, ◌≢◌, inl, inr, ℕ, ◌≤◌, ◌<◌, ◌+◌, ◌-◌, Bool, true, false, not, ◌&&◌, cond, List, [], ◌∷◌, length, length-append, slice_index_or, refl, sym, ap, subst, ◌∙◌, true≢false, arith}
use Rattle.std.specs.Ordering.{nat_cmp}
use Rattle.std.specs.FinSet as sets
use Rattle.std.proofs.lemmas.Bool.{cases_eq, cases_lt}
use Rattle.std.proofs.lemmas.List.{get_or_default}
use Rattle.fy_policy.specs.Counted.{number_of}
use Rattle.fy_policy.specs.Sat.{group, outside, satisfies}
use Rattle.fy_policy.specs.Shape.{tree_of}
use Rattle.fy_policy.specs.Tree.{Tree, across, IsWellFormed}
use Rattle.fy_policy.proofs.Walk.{no_least}
use Rattle.fy_policy.proofs.Shapes.{all_pass}
use Rattle.fy_tolerance.specs.Costs.{AreSized, IsBreaking, IsLeastOf, IsSized, IsTaken, LacksAtLeast}
use Rattle.fy_tolerance.specs.Taken.{HasTaken}
use Rattle.fy_tolerance.specs.declared.parts.Part.{Part}
use Rattle.fy_tolerance.proofs.Breaking.{BrokenSoFar, broken-begins, broken-ends, broken-goes-on, broken-skips, one-broken}
use Rattle.fy_tolerance.proofs.Lacking.{LackSoFar, lack-begins, lack-goes-on, lack-skips, lack-ends, one-gone}
use Rattle.fy_tolerance.proofs.Shapes.{inner_counted, part_is_counted', part_passes}
use Rattle.fy_tolerance.proofs.Taking.{all_with}
use Rattle.fy_tolerance.proofs.Values.{fewer-dropped, fewer-taken, few_present, dropped-others, dropped-itself, empty_has, present}
use Rattle.fy_tolerance.proofs.fewest_to_break.+fewest_to_break.Goals as goal

pub loop-p-init : goal.loop-p-init
loop-p-init t c = record {
  least = λ counted s level within.
      subst (λ parts. LackSoFar c.args.map.now c.in-Across.key (tree_of c.in-Across.inner.value) (sets.contains c.args.group.now) (sets.contains c.args.group.now) parts s level) (sym c.new-values.ensures.items)
      (lack-begins c.args.map.now c.in-Across.key (tree_of c.in-Across.inner.value) (sets.contains c.args.group.now) s level within);
  few = subst (λ parts. length parts + present (sets.contains c.args.group.now) 1024 ≤ 1024) (sym c.new-values.ensures.items) (begins _ (few_present (sets.contains c.args.group.now) 1024));
  sized = λ counted. subst (λ parts. AreSized (length c.args.map.now) parts) (sym c.new-values.ensures.items) tt;
  broken = λ counted set.
      subst (λ parts. BrokenSoFar c.args.map.now c.in-Across.key (tree_of c.in-Across.inner.value) (sets.contains c.args.group.now) (sets.contains c.args.group.now) parts set) (sym c.new-values.ensures.items)
      (broken-begins c.args.map.now c.in-Across.key (tree_of c.in-Across.inner.value) (sets.contains c.args.group.now) set);
}
  where
    begins : (n : ℕ) → n ≤ 1024 → 0 + n ≤ 1024
    begins n h = omega arith

pub loop-p-smaller-in_default-take_value : goal.loop-p-smaller-in_default-take_value
loop-p-smaller-in_default-take_value t c = fewer-dropped c.loop-p.rest _ c.in-Some.p.0 c.in_default-take_value.ensures.none.left c.in-Some.ensures.some.present c.in-Some.ensures.small

pub loop-p-preserved-in_default-take_value : goal.loop-p-preserved-in_default-take_value
loop-p-preserved-in_default-take_value t c = record {
  least = λ counted s level within.
      lack-skips c.args.map.now c.in-Across.key (tree_of c.in-Across.inner.value) c.keyless_pass_nothing.ensures (sets.contains c.loop-p.rest) _ c.in-Some.p.0 c.in_default-take_value.ensures.none.none
      (dropped-others c.loop-p.rest _ c.in-Some.p.0 c.in_default-take_value.ensures.none.left) (dropped-itself c.loop-p.rest _ c.in-Some.p.0 c.in_default-take_value.ensures.none.left)
      c.loop-p.values.items (sets.contains c.args.group.now) s level (c.loop-p.invariant.least counted s level within);
  few = no_more _ _ _ (fewer-dropped c.loop-p.rest _ c.in-Some.p.0 c.in_default-take_value.ensures.none.left c.in-Some.ensures.some.present c.in-Some.ensures.small) c.loop-p.invariant.few;
  sized = c.loop-p.invariant.sized;
  broken = λ counted set.
      broken-skips c.args.map.now c.in-Across.key (tree_of c.in-Across.inner.value) (sets.contains c.args.group.now) c.keyless_pass_nothing.ensures (sets.contains c.loop-p.rest) _ c.in-Some.p.0 c.in_default-take_value.ensures.none.none
      (dropped-others c.loop-p.rest _ c.in-Some.p.0 c.in_default-take_value.ensures.none.left) c.loop-p.values.items set (c.loop-p.invariant.broken counted set);
}
  where
    no_more : (n a b : ℕ) → a < b → n + b ≤ 1024 → n + a ≤ 1024
    no_more n a b e f = omega arith

pub loop-p-smaller : goal.loop-p-smaller
loop-p-smaller t c =
    fewer-taken c.args.map.now c.in-Across.key c.in-Some.p.0 c.loop-p.rest _ _ c.in-Some-take_value.ensures.some c.in-Some.ensures.some.present c.in-Some.ensures.small

pub loop-p-preserved : goal.loop-p-preserved
loop-p-preserved t c =
    let q : Tree = tree_of c.in-Across.inner.value in
    let members : sets.FinSet nat_cmp = c.in-Some-take_value.with_value in
    let value : List ℕ = c.in-Some-take_value.ensures.some.value in
    let part : Part = c.in_ok-part-in-Across.part in
    let taken : HasTaken c.args.map.now c.in-Across.key c.in-Some.p.0 c.loop-p.rest members c.take_value.new.rest = c.in-Some-take_value.ensures.some in
    let found : (x : ℕ) → sets.contains members x ≡ group c.args.map.now c.in-Across.key value (sets.contains c.loop-p.rest) x = taken.taken in
    let left : (x : ℕ) → sets.contains c.take_value.new.rest x ≡ outside c.args.map.now c.in-Across.key value (sets.contains c.loop-p.rest) x = taken.left in
    let below : IsWellFormed (tree_of c.args.shape.now) → IsWellFormed (tree_of c.deref.result.now) = (λ counted. subst (λ r. IsWellFormed (tree_of r)) (sym c.deref.ensures) (inner_counted _ _ _ _ c.in-Across.is counted).1) in
    let breaking : IsWellFormed (tree_of c.args.shape.now) → part.least ≤ 1024 → IsBreaking c.args.map.now q (sets.contains members) part =
    (λ counted few. subst (λ r. IsBreaking c.args.map.now (tree_of r) (sets.contains members) part) c.deref.ensures (c.in_ok-part-in-Across.ensures.breaking (below counted) few)) in
    record {
      least = λ counted s level within.
          let lacked : LacksAtLeast c.args.map.now q (sets.contains members) part.least =
          subst (λ r. LacksAtLeast c.args.map.now (tree_of r) (sets.contains members) part.least) c.deref.ensures (c.in_ok-part-in-Across.ensures.least (below counted)) in
          subst (λ parts. LackSoFar c.args.map.now c.in-Across.key q (sets.contains c.args.group.now) (sets.contains c.take_value.new.rest) parts s level) (sym c.in_ok-push-in-Across.ensures.items)
          (lack-goes-on c.args.map.now c.in-Across.key q c.values_pass_apart.ensures (inner_counted _ _ _ _ c.in-Across.is counted).1 (sets.contains c.loop-p.rest) (sets.contains members) (sets.contains c.take_value.new.rest)
          value c.in-Some.p.0 c.in-Some-take_value.ensures.some.had found left c.loop-p.values.items part lacked (sets.contains c.args.group.now) s level (c.loop-p.invariant.least counted s level within));
      few = one_more _ _ _ _ (ap length c.in_ok-push-in-Across.ensures.items ∙ length-append c.loop-p.values.items (part ∷ []))
          (fewer-taken c.args.map.now c.in-Across.key c.in-Some.p.0 c.loop-p.rest members c.take_value.new.rest taken c.in-Some.ensures.some.present c.in-Some.ensures.small)
          c.loop-p.invariant.few;
      sized = λ counted.
          subst (λ parts. AreSized (length c.args.map.now) parts) (sym c.in_ok-push-in-Across.ensures.items)
          (all_with (IsSized (length c.args.map.now)) c.loop-p.values.items part (c.loop-p.invariant.sized counted) (λ few. (breaking counted few).small));
      broken = λ counted set.
          subst (λ parts. BrokenSoFar c.args.map.now c.in-Across.key q (sets.contains c.args.group.now) (sets.contains c.take_value.new.rest) parts set) (sym c.in_ok-push-in-Across.ensures.items)
          (broken-goes-on c.args.map.now c.in-Across.key q (sets.contains c.args.group.now) c.values_pass_apart.ensures c.test_is_satisfaction-in-Across.ensures c.more_satisfies.ensures (inner_counted _ _ _ _ c.in-Across.is counted).1
          (sets.contains c.loop-p.rest) (sets.contains members) (sets.contains c.take_value.new.rest) value c.in-Some.p.0 c.in-Some-take_value.ensures.some.had found left
          c.loop-p.values.items part (breaking counted) set (c.loop-p.invariant.broken counted set));
    }
  where
    one_more : (n' n a b : ℕ) → n' ≡ n + 1 → a < b → n + b ≤ 1024 → n' + a ≤ 1024
    one_more n' n a b e f g = omega arith

pub returns-in_default-clause-least : goal.returns-in_default-clause-least
returns-in_default-clause-least t c = λ counted.
    subst (λ q. LacksAtLeast c.args.map.now (tree_of q) (sets.contains c.args.group.now) c.least_of.result.least) (sym c.in-Across.is)
    (lack-ends c.args.map.now c.in-Across.key (tree_of c.in-Across.inner.value) c.nobody_passes.ensures (inner_counted _ _ _ _ c.in-Across.is counted).1 (sets.contains c.args.group.now) (sets.contains c.loop-p.rest)
    (empty_has c.loop-p.rest (no_least _ _ c.least.ensures.none c.in_default.not-Some)) c.loop-p.values.items c.in-Across.wanted c.all_but-broken.result c.least_of.result.least
    (c.all_but-broken.ensures ∙ ap (λ xs. length xs - (c.in-Across.wanted - 1)) c.deref-in-Across.ensures.value)
    (subst (λ counts. IsLeastOf counts c.all_but-broken.result c.least_of.result.least) c.deref-in-Across-2.ensures.value c.least_of.ensures.least)
    (λ s level within. c.loop-p.invariant.least counted s level within))

pub returns-in_default-clause-breaking : goal.returns-in_default-clause-breaking
returns-in_default-clause-breaking t c = λ counted few.
    let found : Part = c.least_of.result in
    let items : List Part = c.loop-p.values.items in
    let broken : c.all_but-broken.result ≡ length items - (c.in-Across.wanted - 1) = c.all_but-broken.ensures ∙ ap (λ xs. length xs - (c.in-Across.wanted - 1)) c.deref-in-Across.ensures.value in
    let taken : IsTaken (length c.args.map.now) items c.all_but-broken.result found =
    subst (λ parts. IsTaken (length c.args.map.now) parts c.all_but-broken.result found) c.deref-in-Across-2.ensures.value (c.least_of.ensures.taken few (within _ _ _ _ broken c.loop-p.invariant.few) (length c.args.map.now)) in
    let below = inner_counted _ _ _ _ c.in-Across.is counted in
    let is : IsBreaking c.args.map.now (across c.in-Across.wanted c.in-Across.key (tree_of c.in-Across.inner.value)) (sets.contains c.args.group.now) found =
    record {
      small = taken.small (c.loop-p.invariant.sized counted);
      broken = broken-ends c.args.map.now c.in-Across.key (tree_of c.in-Across.inner.value) (sets.contains c.args.group.now) c.nobody_passes.ensures below.1 (sets.contains c.loop-p.rest)
          (empty_has c.loop-p.rest (no_least _ _ c.least.ensures.none c.in_default.not-Some)) items found.set c.in-Across.wanted c.all_but-broken.result below.0 broken taken.enough (c.loop-p.invariant.broken counted found.set);
    } in
    subst (λ r. IsBreaking c.args.map.now (tree_of r) (sets.contains c.args.group.now) found) (sym c.in-Across.is) is
  where
    within : (b n w p : ℕ) → b ≡ n - w → n + p ≤ 1024 → b ≤ 1024
    within b n w p e f = omega arith

pub returns-in-One-clause-least : goal.returns-in-One-clause-least
returns-in-One-clause-least t c = λ counted. subst (λ q. LacksAtLeast c.args.map.now (tree_of q) (sets.contains c.args.group.now) c.size.result) (sym c.in-One.is) (one-gone c.test_is_satisfaction.ensures c.args.map.now (sets.contains c.args.group.now) c.size.result c.size.ensures)

pub returns-in-One-clause-breaking : goal.returns-in-One-clause-breaking
returns-in-One-clause-breaking t c = λ counted few.
    let found : Part = record { least = c.size.result; set = c.args.group.now } in
    subst (λ r. IsBreaking c.args.map.now (tree_of r) (sets.contains c.args.group.now) found) (sym c.in-One.is) (one-broken c.test_is_satisfaction.ensures c.args.map.now c.args.group.now found refl c.size.ensures)

pub loop-part-init : goal.loop-part-init
loop-part-init t c = record {
  least = λ counted s within few k d below. absurd (omega arith);
  breaking = λ counted few. absurd (let much : 1025 ≤ 1024 = few in omega arith);
}

pub loop-part-preserved : goal.loop-part-preserved
loop-part-preserved t c = record {
  least = (λ counted s within few k d below. elim (cases_eq k c.loop-part.part-index) [
    | inl here ↦
        let same : c.deref-part-items.result.now ≡ c.in-And.parts.items = c.deref-part-items.ensures.value in
        ap (λ j. satisfies c.args.map.now (tree_of (slice_index_or c.deref-part-items.result.now j d)) s) here
        ∙ ap (λ q. satisfies c.args.map.now (tree_of q) s) (get_or_default c.deref-part-items.result.now c.loop-part.part-index d c.part-item.result c.loop-part-test.true ∙ sym c.part-item.is)
        ∙ passes (satisfies c.args.map.now (tree_of c.part-item.result) s) (λ unsat.
        let lacks : c.in_ok-lacked-in-And.lacked.least ≤ number_of (λ p. sets.contains c.args.group.now p && not (s p)) (length c.args.map.now) =
        c.in_ok-lacked-in-And.ensures.least (part_is_counted' c.parts_are_well_formed.ensures c.args.shape.now c.in-And.parts c.deref-part-items.result.now c.loop-part.part-index c.part-item.result c.in-And.is same counted c.loop-part-test.true c.part-item.is) s within unsat in
        let fewer : number_of (λ p. sets.contains c.args.group.now p && not (s p)) (length c.args.map.now) < c.lesser-best.result.least = few in
        let second : c.lesser-best.result.least ≤ c.in_ok-lacked-in-And.lacked.least = c.lesser-best.ensures.second in
        let x : ⊥ = omega arith in x)
    | inr other ↦
        let fewer : number_of (λ p. sets.contains c.args.group.now p && not (s p)) (length c.args.map.now) < c.lesser-best.result.least = few in
        let first : c.lesser-best.result.least ≤ c.loop-part.best.least = c.lesser-best.ensures.first in
        let before : number_of (λ p. sets.contains c.args.group.now p && not (s p)) (length c.args.map.now) < c.loop-part.best.least = omega arith in
        c.loop-part.invariant.least counted s within before k d (lower k c.loop-part.part-index below other)
  ]);
  breaking = λ counted.
      let same : c.deref-part-items.result.now ≡ c.in-And.parts.items = c.deref-part-items.ensures.value in
      chosen (λ part. part.least ≤ 1024 → IsBreaking c.args.map.now (tree_of c.args.shape.now) (sets.contains c.args.group.now) part) _ _ _ _ c.lesser-best.ensures.which
      (λ few.
      let one : IsBreaking c.args.map.now (tree_of c.part-item.result) (sets.contains c.args.group.now) c.in_ok-lacked-in-And.lacked =
      c.in_ok-lacked-in-And.ensures.breaking (part_is_counted' c.parts_are_well_formed.ensures c.args.shape.now c.in-And.parts c.deref-part-items.result.now c.loop-part.part-index c.part-item.result c.in-And.is same counted c.loop-part-test.true c.part-item.is) few in
      record {
        small = one.small;
        broken = fails _ (λ sat.
            true≢false (sym (part_passes c.and_is_each.ensures c.args.map.now _ c.args.shape.now c.in-And.parts c.deref-part-items.result.now c.loop-part.part-index c.part-item.result c.in-And.is same c.loop-part-test.true c.part-item.is sat) ∙ one.broken));
      })
      (c.loop-part.invariant.breaking counted);
}
  where
    chosen : (P : Part → Type 0) (b : Bool) (x y r : Part) → r ≡ cond b x y → P x → P y → P r
    chosen P true x y r e f g = subst P (sym e) f
    chosen P false x y r e f g = subst P (sym e) g

    fails : (b : Bool) → (b ≡ true → ⊥) → b ≡ false
    fails true h = absurd (h refl)
    fails false h = refl

    lower : (k n : ℕ) → k < n + 1 → k ≢ n → k < n
    lower k n h ne = omega arith

    passes : (b : Bool) → (b ≡ false → ⊥) → b ≡ true
    passes true h = refl
    passes false h = absurd (h refl)

pub returns-after-loop-part-clause-least : goal.returns-after-loop-part-clause-least
returns-after-loop-part-clause-least t c = λ counted s within unsat.
    elim (cases_lt (number_of (λ p. sets.contains c.args.group.now p && not (s p)) (length c.args.map.now)) c.loop-part.best.least) [
      | inl few ↦
          let same : c.deref-part-items.result.now ≡ c.in-And.parts.items = c.deref-part-items.ensures.value in
          let all : satisfies c.args.map.now (tree_of c.args.shape.now) s ≡ true =
          ap (λ q. satisfies c.args.map.now (tree_of q) s) c.in-And.is
          ∙ c.and_is_each.ensures c.args.map.now c.in-And.parts s
          ∙ all_pass (λ q. satisfies c.args.map.now (tree_of q) s) c.in-And.parts.items (λ k d h.
          subst (λ qs. satisfies c.args.map.now (tree_of (slice_index_or qs k d)) s ≡ true) same
          (c.loop-part.invariant.least counted s within few k d (past k _ _ _ h (ap length same) c.loop-part-test.false))) in
          absurd (true≢false (sym all ∙ unsat))
      | inr many ↦ many
    ]
  where
    past : (k n m i : ℕ) → k < m → n ≡ m → n ≤ i → k < i
    past k n m i h e f = omega arith
