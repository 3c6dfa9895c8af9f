use Rattle.std.proofs.Common.{◌≡◌, ℕ, ◌+◌, ◌-◌, ◌≤◌, List, ◌∷◌, ◌++◌, [], take, refl, sym, ap, subst, ◌∙◌, arith}
use Rattle.std.specs.Ordering.{nat_cmp}
use Rattle.std.specs.FinSet as sets
use Rattle.std.specs.Prelude.{nat_lt}
use Rattle.std.specs.List.{count_by}
use Rattle.std.proofs.lemmas.List.{take_all}
use Rattle.fy_tolerance.specs.declared.parts.Part.{Part}
use Rattle.fy_tolerance.proofs.Taking.{Taken, take_next, taken-begins, taken-below, taken-same, taken-not, taken-ends}
use Rattle.fy_tolerance.proofs.parts.cheapest.Goals.{then-part-level, else-part-level+then-part-level-2+then-room-gt0, else-part-level+else-part-level-2, else-part-level-2-via-then-part-level-2+else-room-gt0, else-part-level-2-via-else-part-level-2}
use Rattle.fy_tolerance.proofs.parts.cheapest.Goals as goal

pub loop-part-init : goal.loop-part-init
loop-part-init c =
    subst (λ (n : ℕ). Taken c.args.level (c.args.taken - count_by (λ part. nat_lt part.least c.args.level) c.args.parts.now) [] c.empty-all.result n)
    (sym (c.saturating_sub-room.ensures ∙ ap (λ n. c.args.taken - n) c.number_below.ensures))
    (taken-begins c.args.level (c.args.taken - count_by (λ part. nat_lt part.least c.args.level) c.args.parts.now) c.empty-all.result c.empty-all.ensures)

pub loop-part-preserved : goal.loop-part-preserved
loop-part-preserved c =
    let level : ℕ = c.args.level in
    let extra : ℕ = c.args.taken - count_by (λ part. nat_lt part.least c.args.level) c.args.parts.now in
    let before : List Part = take c.loop-part.part-index c.args.parts.now in
    let part : Part = c.part-item.result in
    let next : take (c.loop-part.part-index + 1) c.args.parts.now ≡ before ++ part ∷ [] = take_next c.args.parts.now c.loop-part.part-index part c.loop-part-test.true c.part-item.is in
    subst (λ (xs : List Part). Taken level extra xs c.if-part-level.all c.if-part-level.room) (sym next)
    (elim c.if-part-level.branch [
      | then-part-level w ↦
          placed level extra (before ++ part ∷ []) _ _ _ _ (w.all-is ∙ w.union-all.ensures) w.room-is
          (taken-below level extra c.requires.small before c.loop-part.all c.loop-part.room c.loop-part.invariant part w.if-part-level.true)
      | else-part-level+then-part-level-2+then-room-gt0 w ↦
          placed level extra (before ++ part ∷ []) _ _ _ _ (w.all-is ∙ w.union-all-then-room-gt0.ensures) w.room-is
          (taken-same level extra c.requires.small before c.loop-part.all c.loop-part.room c.loop-part.invariant part w.if-part-level-2.true w.if-room-gt0.true)
      | else-part-level+else-part-level-2 w ↦
          placed level extra (before ++ part ∷ []) _ _ _ _ w.all-is w.room-is
          (taken-not level extra c.requires.small before c.loop-part.all c.loop-part.room c.loop-part.invariant part w.if-part-level.false
          (elim w.else-part-level-2.branch [
            | else-part-level-2-via-then-part-level-2+else-room-gt0 v ↦ λ same. (let none : c.loop-part.room ≤ 0 = v.if-room-gt0.false in omega arith)
            | else-part-level-2-via-else-part-level-2 v ↦ λ same. absurd (v.if-part-level-2.false same)
          ]))
    ])
  where
    placed : (level extra : ℕ) (before : List Part) (all all' : sets.FinSet nat_cmp) (room room' : ℕ) → all' ≡ all → room' ≡ room → Taken level extra before all room → Taken level extra before all' room'
    placed level extra before all all' room room' a b so =
        subst (λ (s : sets.FinSet nat_cmp). Taken level extra before s room') (sym a) (subst (λ (n : ℕ). Taken level extra before all n) (sym b) so)

passed : (c : goal.After-loop-part) → Taken c.args.level (c.args.taken - count_by (λ part. nat_lt part.least c.args.level) c.args.parts.now) c.args.parts.now c.loop-part.all c.loop-part.room
passed c = subst (λ (xs : List Part). Taken c.args.level (c.args.taken - count_by (λ part. nat_lt part.least c.args.level) c.args.parts.now) xs c.loop-part.all c.loop-part.room) (take_all c.loop-part.part-index c.args.parts.now c.loop-part-test.false) c.loop-part.invariant

pub returns-clause-taken : goal.returns-clause-taken
returns-clause-taken c = (taken-ends c.args.level c.args.taken _ c.args.parts.now c.loop-part.all c.loop-part.room refl c.requires.few c.requires.enough (passed c)).0

pub returns-clause-least : goal.returns-clause-least
returns-clause-least c = (taken-ends c.args.level c.args.taken _ c.args.parts.now c.loop-part.all c.loop-part.room refl c.requires.few c.requires.enough (passed c)).1

pub returns-clause-within : goal.returns-clause-within
returns-clause-within c = (passed c).within
