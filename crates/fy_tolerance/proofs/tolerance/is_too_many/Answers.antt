use Rattle.std.proofs.Common.{◌≡◌, Bool, true, false, not, [], ◌∷◌, refl, ap, sym, subst, ◌∙◌, true≢false}
use Rattle.std.specs.FinSet as sets
use Rattle.fy_policy.specs.Sat.{Sat}
use Rattle.fy_decide.specs.Safety.{MayDestroy}
use Rattle.fy_decide.specs.declared.dead_book.Loss.TheVariants.{Gone}
use Rattle.fy_tolerance.proofs.BorneLosses.{may-short, with-is, without-is}
use Rattle.fy_tolerance.proofs.tolerance.is_too_many.Goals as goal

pub returns-then-satisfied-clause-yes : goal.returns-then-satisfied-clause-yes
returns-then-satisfied-clause-yes c = λ yes may.
    may-short c.args.map.now c.args.policy.now (sets.contains c.args.destroyed.now) (sets.contains c.args.left.now) (sets.contains c.args.set.now) c.args.loss may
    (subst (Sat c.args.map.now c.args.policy.now) (with-is c.args.destroyed.now c.args.set.now c.union.result c.union.ensures) (c.satisfied.ensures.satisfaction.0 c.if-satisfied.true))

pub returns-in-Emptied-clause-no : goal.returns-in-Emptied-clause-no
returns-in-Emptied-clause-no c = λ no.
    subst (MayDestroy c.args.map.now (c.args.policy.now ∷ []) (sets.contains c.args.destroyed.now) (sets.contains c.args.left.now) (sets.contains c.args.set.now)) (sym c.in-Emptied.is)
    ((λ sat. true≢false (sym (c.satisfied.ensures.satisfaction.1 (subst (Sat c.args.map.now c.args.policy.now) (sym (with-is c.args.destroyed.now c.args.set.now c.union.result c.union.ensures)) sat)) ∙ c.if-satisfied.false)), tt)

pub returns-in-Gone-clause-yes : goal.returns-in-Gone-clause-yes
returns-in-Gone-clause-yes c = λ unsat may.
    let lost : MayDestroy c.args.map.now (c.args.policy.now ∷ []) (sets.contains c.args.destroyed.now) (sets.contains c.args.left.now) (sets.contains c.args.set.now) Gone = subst (MayDestroy c.args.map.now (c.args.policy.now ∷ []) (sets.contains c.args.destroyed.now) (sets.contains c.args.left.now) (sets.contains c.args.set.now)) c.in-Gone.is may in
    let met : Sat c.args.map.now c.args.policy.now (sets.contains c.difference.result) = subst (Sat c.args.map.now c.args.policy.now) (sym (without-is c.args.left.now c.args.set.now c.difference.result c.difference.ensures)) lost.1.0 in
    true≢false (sym unsat ∙ ap not (c.satisfied-in-Gone.ensures.satisfaction.1 met))

pub returns-in-Gone-clause-no : goal.returns-in-Gone-clause-no
returns-in-Gone-clause-no c = λ met.
    subst (MayDestroy c.args.map.now (c.args.policy.now ∷ []) (sets.contains c.args.destroyed.now) (sets.contains c.args.left.now) (sets.contains c.args.set.now)) (sym c.in-Gone.is) (
      ((λ sat. true≢false (sym (c.satisfied.ensures.satisfaction.1 (subst (Sat c.args.map.now c.args.policy.now) (sym (with-is c.args.destroyed.now c.args.set.now c.union.result c.union.ensures)) sat)) ∙ c.if-satisfied.false)), tt),
      (subst (Sat c.args.map.now c.args.policy.now) (without-is c.args.left.now c.args.set.now c.difference.result c.difference.ensures) (c.satisfied-in-Gone.ensures.satisfaction.0 (not_false c.satisfied-in-Gone.result met)), tt),
    )
  where
    not_false : (b : Bool) → not b ≡ false → b ≡ true
    not_false true e = refl
    not_false false e = absurd (true≢false e)
