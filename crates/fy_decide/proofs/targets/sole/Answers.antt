use Rattle.std.proofs.Common.{◌≡◌, ℕ, ◌+◌, ◌≤◌, refl, sym, subst, ◌∙◌, arith}
use Rattle.fy_decide.proofs.Alone.{HaveFound, found-none, found-next, found-small, found-alone}
use Rattle.fy_decide.proofs.targets.sole.Goals.{then-word-ne0+else-is_some+else-word-bit, else-word-ne0}
use Rattle.fy_decide.proofs.targets.sole.Goals as goal

pub loop-k-preserved : goal.loop-k-preserved
loop-k-preserved c = elim c.if-word-ne0.branch [
  | then-word-ne0+else-is_some+else-word-bit w ↦
      subst (HaveFound c.words-words.result (c.loop-k.k + 1)) (sym w.found-is)
      (found-next c.words-words.result c.loop-k.k c.loop-k.found _ c.loop-k.invariant (sym w.is_some.ensures ∙ w.if-is_some.false) w.if-word-ne0.true c.loop-k-test.element_fits.fits w.if-word-bit.false refl)
  | else-word-ne0 w ↦
      subst (HaveFound c.words-words.result (c.loop-k.k + 1)) (sym w.found-is)
      (found-none c.words-words.result c.loop-k.k c.loop-k.found c.loop-k.invariant w.if-word-ne0.false)
]

at-end : (k : ℕ) → 16 ≤ k → k ≤ 16 → k ≡ 16
at-end k low high = omega arith

pub returns-clause-small : goal.returns-clause-small
returns-clause-small c =
    found-small c.words-words.result c.loop-k.found (subst (λ k. HaveFound c.words-words.result k c.loop-k.found) (at-end c.loop-k.k c.loop-k-test.false c.loop-k.auto.k-end) c.loop-k.invariant)

pub returns-clause-alone : goal.returns-clause-alone
returns-clause-alone c =
    found-alone c.words-words.result c.args.given.now c.loop-k.found c.words-words.ensures (subst (λ k. HaveFound c.words-words.result k c.loop-k.found) (at-end c.loop-k.k c.loop-k-test.false c.loop-k.auto.k-end) c.loop-k.invariant)
