use Rattle.std.proofs.Common.{◌≡◌, ℕ, ◌≤◌, Bool, true, false, ◌&&◌, not, List, length, refl, sym, subst, ◌∙◌, arith}
use Rattle.std.specs.List.{AllByRecursion}
use Rattle.std.specs.Ordering.{nat_cmp}
use Rattle.std.specs.FinSet as sets
use Rattle.fy_decide.specs.Safety.{everyone}
use Rattle.fy_policy.specs.Counted.{number_of}
use Rattle.fy_policy.specs.Sat.{group, outside, satisfies}
use Rattle.fy_policy.specs.Shape.{tree_of}
use Rattle.fy_policy.specs.Tree.{Tree, across, IsWellFormed}
use Rattle.fy_policy.proofs.Walk.{no_least}
use Rattle.fy_tolerance.specs.Costs.{AreSized, HasNoAnd, IsEnough, IsLeastOf, IsSized, IsTaken, IsWithin, NeedsAtLeast}
use Rattle.fy_tolerance.specs.Taken.{HasTaken}
use Rattle.fy_tolerance.specs.declared.parts.Part.{Part}
use Rattle.fy_tolerance.proofs.Needing.{NeedSoFar, fewest_to_satisfy-begins, fewest_to_satisfy-goes-on, fewest_to_satisfy-skips, fewest_to_satisfy-ends}
use Rattle.fy_tolerance.proofs.Shapes.{count_within, inner_counted, inner_has_no_and, part_is_counted', part_passes}
use Rattle.fy_tolerance.proofs.Sufficing.{EnoughSoFar, enough-begins, enough-ends, enough-goes-on, enough-skips, kept-within, none-within, union-within}
use Rattle.fy_tolerance.proofs.Taking.{all_with}
use Rattle.fy_tolerance.proofs.Values.{fewer-dropped, fewer-taken, dropped-others, dropped-itself, empty_has}
use Rattle.fy_tolerance.proofs.fewest_to_satisfy.+fewest_to_satisfy.Goals as goal

pub loop-p-init : goal.loop-p-init
loop-p-init t c = record {
  least = (λ counted s level within.
      subst (λ counts. NeedSoFar c.args.map.now c.in-Across.key (tree_of c.in-Across.inner.value) (sets.contains c.args.free.now) (sets.contains c.args.group.now) counts s level) (sym c.new-values.ensures.items)
      (fewest_to_satisfy-begins c.args.map.now c.in-Across.key (tree_of c.in-Across.inner.value) (sets.contains c.args.free.now) (sets.contains c.args.group.now) s level within));
  inside = λ x h. h;
  within = subst (λ parts. AllByRecursion (λ (part : Part). IsWithin (sets.contains part.set) (sets.contains c.args.group.now)) parts) (sym c.new-values.ensures.items) tt;
  sized = λ counted bare inside. subst (λ parts. AreSized (length c.args.map.now) parts) (sym c.new-values.ensures.items) tt;
  enough = λ counted bare inside set within.
      subst (λ parts. EnoughSoFar c.args.map.now c.in-Across.key (tree_of c.in-Across.inner.value) (sets.contains c.args.group.now) (sets.contains c.args.free.now) (sets.contains c.args.group.now) parts set) (sym c.new-values.ensures.items)
      (enough-begins c.args.map.now c.in-Across.key (tree_of c.in-Across.inner.value) (sets.contains c.args.group.now) (sets.contains c.args.free.now) set within);
}

pub loop-p-smaller-in_default-take_value : goal.loop-p-smaller-in_default-take_value
loop-p-smaller-in_default-take_value t c = fewer-dropped c.loop-p.rest _ c.in-Some.p.0 c.in_default-take_value.ensures.none.left c.in-Some.ensures.some.present c.in-Some.ensures.small

pub loop-p-preserved-in_default-take_value : goal.loop-p-preserved-in_default-take_value
loop-p-preserved-in_default-take_value t c = record {
  least = (λ counted s level within.
      fewest_to_satisfy-skips c.args.map.now c.in-Across.key (tree_of c.in-Across.inner.value) (sets.contains c.args.free.now) c.keyless_pass_nothing.ensures (sets.contains c.loop-p.rest) _ c.in-Some.p.0 c.in_default-take_value.ensures.none.none
      (dropped-others c.loop-p.rest _ c.in-Some.p.0 c.in_default-take_value.ensures.none.left) (dropped-itself c.loop-p.rest _ c.in-Some.p.0 c.in_default-take_value.ensures.none.left)
      c.loop-p.values.items s level (c.loop-p.invariant.least counted s level within));
  inside = λ x h. c.loop-p.invariant.inside x (kept-within (sets.contains c.loop-p.rest) _ c.in-Some.p.0 (dropped-others c.loop-p.rest _ c.in-Some.p.0 c.in_default-take_value.ensures.none.left) (dropped-itself c.loop-p.rest _ c.in-Some.p.0 c.in_default-take_value.ensures.none.left) x h);
  within = c.loop-p.invariant.within;
  sized = c.loop-p.invariant.sized;
  enough = λ counted bare inside set within.
      enough-skips c.args.map.now c.in-Across.key (tree_of c.in-Across.inner.value) (sets.contains c.args.group.now) (sets.contains c.args.free.now) c.keyless_pass_nothing.ensures (sets.contains c.loop-p.rest) _ c.in-Some.p.0 c.in_default-take_value.ensures.none.none
      (dropped-others c.loop-p.rest _ c.in-Some.p.0 c.in_default-take_value.ensures.none.left)
      c.loop-p.values.items set (c.loop-p.invariant.enough counted bare inside set within);
}

pub loop-p-smaller : goal.loop-p-smaller
loop-p-smaller t c =
    fewer-taken c.args.map.now c.in-Across.key c.in-Some.p.0 c.loop-p.rest _ _ c.in-Some-take_value.ensures.some c.in-Some.ensures.some.present c.in-Some.ensures.small

pub loop-p-preserved : goal.loop-p-preserved
loop-p-preserved t c =
    let q : Tree = tree_of c.in-Across.inner.value in
    let members : sets.FinSet nat_cmp = c.in-Some-take_value.with_value in
    let value : List ℕ = c.in-Some-take_value.ensures.some.value in
    let part : Part = c.in_ok-part-in-Across.part in
    let taken : HasTaken c.args.map.now c.in-Across.key c.in-Some.p.0 c.loop-p.rest members c.take_value.new.rest = c.in-Some-take_value.ensures.some in
    let found : (x : ℕ) → sets.contains members x ≡ group c.args.map.now c.in-Across.key value (sets.contains c.loop-p.rest) x = taken.taken in
    let left : (x : ℕ) → sets.contains c.take_value.new.rest x ≡ outside c.args.map.now c.in-Across.key value (sets.contains c.loop-p.rest) x = taken.left in
    let of_group : IsWithin (sets.contains members) (sets.contains c.args.group.now) = (λ x h. c.loop-p.invariant.inside x (first (sets.contains c.loop-p.rest x) _ (sym (found x) ∙ h))) in
    let below : IsWellFormed (tree_of c.args.shape.now) → IsWellFormed (tree_of c.deref.result.now) = (λ counted. subst (λ r. IsWellFormed (tree_of r)) (sym c.deref.ensures) (inner_counted _ _ _ _ c.in-Across.is counted).1) in
    let enough : IsWellFormed (tree_of c.args.shape.now) → HasNoAnd (tree_of c.args.shape.now) → IsWithin (sets.contains c.args.group.now) (everyone c.args.map.now) → part.least ≤ 1024 → IsEnough c.args.map.now q (sets.contains members) (sets.contains c.args.free.now) part =
    (λ counted bare inside few. subst (λ r. IsEnough c.args.map.now (tree_of r) (sets.contains members) (sets.contains c.args.free.now) part) c.deref.ensures
    (c.in_ok-part-in-Across.ensures.enough (below counted) (subst (λ r. HasNoAnd (tree_of r)) (sym c.deref.ensures) (inner_has_no_and _ _ _ _ c.in-Across.is bare)) (λ x h. inside x (of_group x h)) few)) in
    record {
      least = λ counted s level within.
          let needed : NeedsAtLeast c.args.map.now q (sets.contains members) (sets.contains c.args.free.now) part.least =
          subst (λ r. NeedsAtLeast c.args.map.now (tree_of r) (sets.contains members) (sets.contains c.args.free.now) part.least) c.deref.ensures (c.in_ok-part-in-Across.ensures.least (below counted)) in
          subst (λ parts. NeedSoFar c.args.map.now c.in-Across.key q (sets.contains c.args.free.now) (sets.contains c.take_value.new.rest) parts s level) (sym c.in_ok-push-in-Across.ensures.items)
          (fewest_to_satisfy-goes-on c.args.map.now c.in-Across.key q (sets.contains c.args.free.now) c.values_pass_apart.ensures (inner_counted _ _ _ _ c.in-Across.is counted).1 (sets.contains c.loop-p.rest) (sets.contains members) (sets.contains c.take_value.new.rest)
          value c.in-Some.p.0 c.in-Some-take_value.ensures.some.had found left c.loop-p.values.items part needed s level (c.loop-p.invariant.least counted s level within));
      inside = λ x h. c.loop-p.invariant.inside x (first (sets.contains c.loop-p.rest x) _ (sym (left x) ∙ h));
      within = subst (λ parts. AllByRecursion (λ (one : Part). IsWithin (sets.contains one.set) (sets.contains c.args.group.now)) parts) (sym c.in_ok-push-in-Across.ensures.items)
          (all_with (λ (one : Part). IsWithin (sets.contains one.set) (sets.contains c.args.group.now)) c.loop-p.values.items part c.loop-p.invariant.within (λ x h. of_group x (c.in_ok-part-in-Across.ensures.within x h)));
      sized = λ counted bare inside.
          subst (λ parts. AreSized (length c.args.map.now) parts) (sym c.in_ok-push-in-Across.ensures.items)
          (all_with (IsSized (length c.args.map.now)) c.loop-p.values.items part (c.loop-p.invariant.sized counted bare inside) (λ few. (enough counted bare inside few).small));
      enough = λ counted bare inside set within.
          subst (λ parts. EnoughSoFar c.args.map.now c.in-Across.key q (sets.contains c.args.group.now) (sets.contains c.args.free.now) (sets.contains c.take_value.new.rest) parts set) (sym c.in_ok-push-in-Across.ensures.items)
          (enough-goes-on c.args.map.now c.in-Across.key q (sets.contains c.args.group.now) (sets.contains c.args.free.now) c.values_pass_apart.ensures c.test_is_satisfaction.ensures c.more_satisfies.ensures (inner_counted _ _ _ _ c.in-Across.is counted).1
          (sets.contains c.loop-p.rest) (sets.contains members) (sets.contains c.take_value.new.rest) value c.in-Some.p.0 c.in-Some-take_value.ensures.some.had found left c.loop-p.invariant.inside
          c.loop-p.values.items part c.in_ok-part-in-Across.ensures.within (enough counted bare inside) set (c.loop-p.invariant.enough counted bare inside set within));
    }
  where
    first : (a b : Bool) → (a && b) ≡ true → a ≡ true
    first true b e = refl
    first false b e = e

pub returns-in_default-clause-least : goal.returns-in_default-clause-least
returns-in_default-clause-least t c = λ counted.
    subst (λ q. NeedsAtLeast c.args.map.now (tree_of q) (sets.contains c.args.group.now) (sets.contains c.args.free.now) c.least_of.result.least) (sym c.in-Across.is)
    (fewest_to_satisfy-ends c.args.map.now c.in-Across.key (tree_of c.in-Across.inner.value) (sets.contains c.args.free.now) c.nobody_passes.ensures (inner_counted _ _ _ _ c.in-Across.is counted).1 (sets.contains c.args.group.now) (sets.contains c.loop-p.rest)
    (empty_has c.loop-p.rest (no_least _ _ c.least.ensures.none c.in_default.not-Some)) c.loop-p.values.items c.in-Across.wanted c.least_of.result.least
    (subst (λ counts. IsLeastOf counts c.in-Across.wanted c.least_of.result.least) c.deref-in-Across.ensures.value c.least_of.ensures.least)
    (λ s level within. c.loop-p.invariant.least counted s level within))

pub loop-part-preserved : goal.loop-part-preserved
loop-part-preserved t c = record {
  least = (λ counted s within sat.
      let same : c.deref-part-items.result.now ≡ c.in-And.parts.items = c.deref-part-items.ensures.value in
      let passes : satisfies c.args.map.now (tree_of c.part-item.result) s ≡ true = part_passes c.and_is_each.ensures c.args.map.now s c.args.shape.now c.in-And.parts c.deref-part-items.result.now c.loop-part.part-index c.part-item.result c.in-And.is same c.loop-part-test.true c.part-item.is sat in
      let here : c.in_ok-needed-in-And.needed.least ≤ number_of (λ p. s p && not (sets.contains c.args.free.now p)) (length c.args.map.now) =
      c.in_ok-needed-in-And.ensures.least (part_is_counted' c.parts_are_well_formed.ensures c.args.shape.now c.in-And.parts c.deref-part-items.result.now c.loop-part.part-index c.part-item.result c.in-And.is same counted c.loop-part-test.true c.part-item.is) s within passes in
      let before : c.loop-part.least ≤ number_of (λ p. s p && not (sets.contains c.args.free.now p)) (length c.args.map.now) = c.loop-part.invariant.least counted s within sat in
      let both : c.max-least.result ≤ number_of (λ p. s p && not (sets.contains c.args.free.now p)) (length c.args.map.now) = omega (arith, c.max-least.ensures) in
      both);
  within = union-within c.loop-part.set c.in_ok-needed-in-And.needed.set _ (sets.contains c.args.group.now) c.union-set.ensures c.loop-part.invariant.within c.in_ok-needed-in-And.ensures.within;
}

pub returns-in-One-clause-least : goal.returns-in-One-clause-least
returns-in-One-clause-least t c = λ counted. subst (λ q. NeedsAtLeast c.args.map.now (tree_of q) (sets.contains c.args.group.now) (sets.contains c.args.free.now) c.one_needed.result.least) (sym c.in-One.is) (c.one_needed.ensures.least c.args.map.now)

pub loop-part-init : goal.loop-part-init
loop-part-init t c = record {
  least = λ counted s within sat. omega arith;
  within = none-within c.args.group.now c.empty-set.result c.empty-set.ensures;
}

pub returns-in_default-clause-within : goal.returns-in_default-clause-within
returns-in_default-clause-within t c =
    c.least_of.ensures.within (sets.contains c.args.group.now)
    (subst (λ parts. AllByRecursion (λ (part : Part). IsWithin (sets.contains part.set) (sets.contains c.args.group.now)) parts) (sym c.deref-in-Across.ensures.value) c.loop-p.invariant.within)

pub returns-in_default-clause-enough : goal.returns-in_default-clause-enough
returns-in_default-clause-enough t c = λ counted bare inside few.
    let found : Part = c.least_of.result in
    let taken : IsTaken (length c.args.map.now) c.loop-p.values.items c.in-Across.wanted found =
    subst (λ parts. IsTaken (length c.args.map.now) parts c.in-Across.wanted found) c.deref-in-Across.ensures.value (c.least_of.ensures.taken few (count_within _ _ _ _ c.in-Across.is counted) (length c.args.map.now)) in
    let within : IsWithin (sets.contains found.set) (sets.contains c.args.group.now) =
    c.least_of.ensures.within (sets.contains c.args.group.now)
    (subst (λ parts. AllByRecursion (λ (part : Part). IsWithin (sets.contains part.set) (sets.contains c.args.group.now)) parts) (sym c.deref-in-Across.ensures.value) c.loop-p.invariant.within) in
    let is : IsEnough c.args.map.now (across c.in-Across.wanted c.in-Across.key (tree_of c.in-Across.inner.value)) (sets.contains c.args.group.now) (sets.contains c.args.free.now) found =
    record {
      small = taken.small (c.loop-p.invariant.sized counted bare inside);
      enough = enough-ends c.args.map.now c.in-Across.key (tree_of c.in-Across.inner.value) (sets.contains c.args.group.now) (sets.contains c.args.free.now) (sets.contains c.loop-p.rest) c.loop-p.values.items found.set c.in-Across.wanted taken.enough
          (c.loop-p.invariant.enough counted bare inside found.set within);
    } in
    subst (λ r. IsEnough c.args.map.now (tree_of r) (sets.contains c.args.group.now) (sets.contains c.args.free.now) found) (sym c.in-Across.is) is
