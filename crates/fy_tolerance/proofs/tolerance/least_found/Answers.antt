use Rattle.std.proofs.Common.{◌≡◌, ℕ, inl, inr, Bool, true, false, not, ◌&&◌, sym, subst, ◌∙◌, arith}
use Rattle.std.specs.FinSet as sets
use Rattle.std.specs.Cmp.{nat_cmp_total}
use Rattle.std.specs.Ordering.{nat_cmp, eq_by_cmp}
use Rattle.std.proofs.lemmas.Bool.{cases_lt}
use Rattle.fy_tolerance.proofs.Tolerating.{less}
use Rattle.fy_tolerance.proofs.tolerance.least_found.Goals as goal

fewer_without : (s t : sets.FinSet nat_cmp) (q r : ℕ) → (sets.contains t r ≡ true → sets.contains s r ≡ true) → sets.contains (sets.remove t q) r ≡ true → sets.contains (sets.remove s q) r ≡ true
fewer_without s t q r within h =
    sets.contains-remove nat_cmp_total s q r ∙ both (not (eq_by_cmp nat_cmp r q)) (sets.contains s r) (sets.contains t r) within (sym (sets.contains-remove nat_cmp_total t q r) ∙ h)
  where
    both : (a s t : Bool) → (t ≡ true → s ≡ true) → (a && t) ≡ true → (a && s) ≡ true
    both true s t w e = w e
    both false s t w e = e

pub loop-p-preserved : goal.loop-p-preserved
loop-p-preserved c = record {
  too_many = c.without_needless-kept.ensures.too_many;
  least = λ q below is. elim (cases_lt q c.loop-p.p) [
    | inl lower ↦
        less c.more_of_map_satisfies.ensures c.args.map.now c.args.policy.now (sets.contains c.args.destroyed.now) (sets.contains c.args.left.now)
        (sets.contains (sets.remove c.without_needless-kept.result q)) (sets.contains (sets.remove c.loop-p.kept q)) c.args.loss
        (λ r there h. fewer_without c.loop-p.kept c.without_needless-kept.result q r (c.without_needless-kept.ensures.within r) h)
        (c.loop-p.invariant.least q lower (c.without_needless-kept.ensures.within q is))
    | inr upper ↦
        (let same : q ≡ c.loop-p.p = omega arith in
        less c.more_of_map_satisfies.ensures c.args.map.now c.args.policy.now (sets.contains c.args.destroyed.now) (sets.contains c.args.left.now)
        (sets.contains (sets.remove c.without_needless-kept.result q)) (sets.contains (sets.remove c.loop-p.kept c.loop-p.p)) c.args.loss
        (λ r there h. fewer_without c.loop-p.kept c.without_needless-kept.result c.loop-p.p r (c.without_needless-kept.ensures.within r) (subst (λ n. sets.contains (sets.remove c.without_needless-kept.result n) r ≡ true) same h))
        (c.without_needless-kept.ensures.matters (subst (λ n. sets.contains c.without_needless-kept.result n ≡ true) same is)))
  ];
  within = λ never r h. c.loop-p.invariant.within never r (c.without_needless-kept.ensures.within r h);
}
