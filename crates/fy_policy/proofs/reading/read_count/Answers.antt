use Rattle.std.proofs.Common.{◌≡◌, ◌⊎◌, ◌+◌, ◌-◌, ◌*◌, ◌<◌, true≢false, min, get_or, inl, inr, refl, sym, subst, ◌∙◌, arith}
use Rattle.std.proofs.lemmas.Bool.{cases_lt}
use Rattle.fy_policy.proofs.Readings.{CountSoFar, count_more, count_stops, count_is_cut}
use Rattle.fy_policy.proofs.reading.read_count.Goals as goal

pub returns-then-i-eq0 : goal.returns-then-i-eq0
returns-then-i-eq0 c =
    count_stops c.args.text.now c.loop-i.i c.loop-i.count (get_or c.args.text.now c.loop-i.i 0) c.loop-i-test.true refl c.loop-i.invariant
    (λ d. absurd (omega arith)) (λ e. c.if-i-eq0.true)

pub returns-then-not-is_ascii_digit : goal.returns-then-not-is_ascii_digit
returns-then-not-is_ascii_digit c =
    count_stops c.args.text.now c.loop-i.i c.loop-i.count (get_or c.args.text.now c.loop-i.i 0) c.loop-i-test.true refl c.loop-i.invariant
    (λ d. absurd (omega (arith, c.if-not-is_ascii_digit.ensures.cases))) (λ e. absurd (c.if-byte-eq44.false e))

pub returns-then-not-may_go_on : goal.returns-then-not-may_go_on
returns-then-not-may_go_on c =
    let stops : (c.loop-i.i ≡ 0) ⊎ (0 < c.loop-i.count) → ⊥ = λ h. true≢false (sym (c.may_go_on.ensures.1 h) ∙ c.if-not-may_go_on.true) in
    count_stops c.args.text.now c.loop-i.i c.loop-i.count (get_or c.args.text.now c.loop-i.i 0) c.loop-i-test.true refl c.loop-i.invariant
    (λ d. (elim (cases_lt 0 c.loop-i.i) [ inl h ↦ h | inr h ↦ absurd (stops (inl (omega arith))) ], elim (cases_lt 0 c.loop-i.count) [ inl h ↦ absurd (stops (inr h)) | inr h ↦ omega arith ]))
    (λ e. absurd (c.if-byte-eq44.false e))

pub loop-i-preserved : goal.loop-i-preserved
loop-i-preserved c =
    let text = c.args.text.now in
    let same : c.min-count.result ≡ min (c.loop-i.count * 10 + (get_or text c.loop-i.i 0 - 48)) 1025 = (let a = c.min-count.ensures in let b = c.from.ensures in cc) in
    subst (CountSoFar text (c.loop-i.i + 1)) (sym same)
    (count_more text c.loop-i.i c.loop-i.count (get_or text c.loop-i.i 0) c.loop-i-test.true refl (let a = c.if-not-is_ascii_digit.ensures.cases in (omega arith, omega arith))
    (c.may_go_on.ensures.0 c.if-not-may_go_on.false) c.loop-i.invariant)

pub returns : goal.returns
returns c = count_is_cut c.args.text.now c.loop-i.i c.loop-i.count c.loop-i-test.false c.loop-i.invariant
