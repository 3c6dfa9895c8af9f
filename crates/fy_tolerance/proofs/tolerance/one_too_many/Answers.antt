use Rattle.std.proofs.Common.{◌≡◌, ℕ, inl, inr, Bool, true, false, not, ◌&&◌, refl, true≢false, [], ◌∷◌, ap, sym, subst, ◌∙◌, arith}
use Rattle.std.specs.FinSet as sets
use Rattle.std.specs.Cmp.{nat_cmp_total}
use Rattle.std.specs.Ordering.{nat_cmp, eq_by_cmp}
use Rattle.std.proofs.lemmas.Bool.{cases_lt}
use Rattle.fy_decide.specs.Safety.{MayDestroy}
use Rattle.fy_tolerance.proofs.Tolerating.{any_one, is_in_one, is_tied, len_one, nobody}
use Rattle.fy_tolerance.proofs.tolerance.one_too_many.Goals as goal

pub loop-p-preserved : goal.loop-p-preserved
loop-p-preserved c = λ q below. elim (cases_lt q c.loop-p.p) [
  | inl lower ↦ c.loop-p.invariant q lower
  | inr upper ↦
      (let same : c.loop-p.p ≡ q = omega arith in
      subst (λ (n : ℕ). MayDestroy c.args.map.now (c.args.policy.now ∷ []) (sets.contains c.args.destroyed.now) (sets.contains c.args.left.now) (sets.contains (sets.insert (sets.empty {R = nat_cmp}) n)) c.args.loss) same
      (subst (λ (s : sets.FinSet nat_cmp). MayDestroy c.args.map.now (c.args.policy.now ∷ []) (sets.contains c.args.destroyed.now) (sets.contains c.args.left.now) (sets.contains s) c.args.loss)
      (c.put.ensures ∙ ap (λ (s : sets.FinSet nat_cmp). sets.insert s c.loop-p.p) c.empty-one.ensures) (c.is_too_many.ensures.no c.if-is_too_many.false)))
]

nobody_else : (s : sets.FinSet nat_cmp) (p q r : ℕ) → s ≡ sets.insert sets.empty p → sets.contains s q ≡ true → sets.contains (sets.remove s q) r ≡ false
nobody_else s p q r is h = go (eq_by_cmp nat_cmp r q) refl
  where
    same : q ≡ p
    same = is_in_one p q (ap (λ t. sets.contains t q) (sym is) ∙ h)

    none : (b : Bool) → sets.contains s r ≡ b → eq_by_cmp nat_cmp r q ≡ false → b ≡ false
    none false e other = refl
    none true e other = absurd (true≢false (sym (is_tied r q (is_in_one p r (ap (λ t. sets.contains t r) (sym is) ∙ e) ∙ sym same)) ∙ other))

    go : (b : Bool) → eq_by_cmp nat_cmp r q ≡ b → sets.contains (sets.remove s q) r ≡ false
    go true e = sets.contains-remove nat_cmp_total s q r ∙ ap (λ b. not b && sets.contains s r) e
    go false e = sets.contains-remove nat_cmp_total s q r ∙ ap (λ b. not b && sets.contains s r) e ∙ none (sets.contains s r) refl e

pub returns-then-is_too_many-clause-least : goal.returns-then-is_too_many-clause-least
returns-then-is_too_many-clause-least c = λ q is.
    nobody c.more_of_map_satisfies.ensures c.args.map.now c.args.policy.now (sets.contains c.args.destroyed.now) (sets.contains c.args.left.now) (sets.contains (sets.remove c.put.new.self q)) c.args.loss c.requires.short c.requires.satisfied
    (λ r. nobody_else c.put.new.self c.loop-p.p q r (c.put.ensures ∙ ap (λ (s : sets.FinSet nat_cmp). sets.insert s c.loop-p.p) c.empty-one.ensures) is)

pub returns-then-is_too_many-clause-one : goal.returns-then-is_too_many-clause-one
returns-then-is_too_many-clause-one c = ap sets.len (c.put.ensures ∙ ap (λ (s : sets.FinSet nat_cmp). sets.insert s c.loop-p.p) c.empty-one.ensures) ∙ len_one c.loop-p.p

pub returns-clause-none : goal.returns-clause-none
returns-clause-none c =
    any_one c.more_of_map_satisfies.ensures c.args.map.now c.args.policy.now (sets.contains c.args.destroyed.now) (sets.contains c.args.left.now) c.args.loss c.requires.short c.requires.satisfied
    (λ q below. c.loop-p.invariant q (omega (arith, c.len-p-end.ensures.count)))
