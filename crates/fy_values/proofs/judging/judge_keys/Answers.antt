use Rattle.std.proofs.Common.{◌≡◌, ◌+◌, ◌∙◌, ℕ, List, Option, Vec, Global, length, sym, ap, subst, arith}
use Rattle.fy_registers.specs.declared.operation.Operation.{Operation}
use Rattle.fy_registers.specs.declared.evidence.Judgement.{Judgement}
use Rattle.fy_values.specs.Values.{IsJudgedInTime}
use Rattle.fy_values.proofs.Parts.{JudgedSoFar, judged_more, each_is_judged, no_operation_behind}
use Rattle.fy_values.proofs.judging.judge_keys.Goals as goal

pub loop-part-preserved : goal.loop-part-preserved
loop-part-preserved c =
    subst (λ judged. JudgedSoFar c.deref-part-items.result.now (c.loop-part.part-index + 1) judged)
    (sym c.in_ok-push.ensures.items)
    (judged_more c.deref-part-items.result.now c.loop-part.part-index c.loop-part.judged.items
    c.loop-part.invariant c.part-item.result c.loop-part-test.true c.part-item.is
    c.in_ok-judge_part.field-0
    (subst (λ os. IsJudgedInTime os c.in_ok-judge_part.field-0) c.deref.ensures.value
    c.in_ok-judge_part.ensures))

-- the judgements of all parts
all_judged : (items parts : List (Vec Operation Global)) (i count : ℕ) → items ≡ parts → i ≡ count
    → (judged : List (Option Judgement)) → JudgedSoFar items i judged → JudgedSoFar parts count judged
all_judged items parts i count same end judged so_far =
    subst (λ ps. JudgedSoFar ps count judged) same (subst (λ n. JudgedSoFar items n judged) end so_far)

pub returns-clause-each : goal.returns-clause-each
returns-clause-each c =
    let size : length c.in_ok-parts.parts.items ≡ c.key_count.result =
    ap length (sym c.deref-part-items.ensures.value) ∙ c.deref-part-items.ensures.len
    ∙ c.in_ok-parts.ensures.count in
    let same = ap length c.deref-part-items.ensures.value in
    let low = c.loop-part-test.false in
    let high = c.loop-part.auto.part-index-end in
    let end : c.loop-part.part-index ≡ c.key_count.result = omega arith in
    each_is_judged c.args.operations.now c.key_count.result c.key_count.ensures
    c.in_ok-parts.parts.items size c.in_ok-parts.ensures.each c.loop-part.judged.items
    (all_judged c.deref-part-items.result.now c.in_ok-parts.parts.items c.loop-part.part-index
    c.key_count.result c.deref-part-items.ensures.value end c.loop-part.judged.items
    c.loop-part.invariant)

pub returns-clause-all : goal.returns-clause-all
returns-clause-all c key past =
    let size : length c.in_ok-parts.parts.items ≡ c.key_count.result =
    ap length (sym c.deref-part-items.ensures.value) ∙ c.deref-part-items.ensures.len
    ∙ c.in_ok-parts.ensures.count in
    let same = ap length c.deref-part-items.ensures.value in
    let low = c.loop-part-test.false in
    let high = c.loop-part.auto.part-index-end in
    let end : c.loop-part.part-index ≡ c.key_count.result = omega arith in
    let so_far = all_judged c.deref-part-items.result.now c.in_ok-parts.parts.items
    c.loop-part.part-index c.key_count.result c.deref-part-items.ensures.value end
    c.loop-part.judged.items c.loop-part.invariant in
    let count = so_far.0 in
    let full = c.loop-part.judged.ok in
    no_operation_behind c.args.operations.now c.key_count.result c.key_count.ensures
    c.in_ok-parts.parts.items size c.in_ok-parts.ensures.each c.loop-part.judged.items so_far key
    (omega arith)
