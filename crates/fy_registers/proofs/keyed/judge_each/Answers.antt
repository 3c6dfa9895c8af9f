use Rattle.std.proofs.Common.{◌≡◌, ◌+◌, ◌≤◌, ℕ, List, length, Option, sym, subst, ◌∙◌, ap, arith, Vec, Global}
use Rattle.fy_registers.specs.declared.operation.Operation.{Operation}
use Rattle.fy_registers.specs.declared.evidence.Judgement.{Judgement}
use Rattle.fy_registers.specs.Evidence.{IsJudged}
use Rattle.fy_registers.proofs.EachPart.{JudgedSoFar, judged_more, each_is_judged, all_together, not_together}
use Rattle.fy_registers.proofs.keyed.judge_each.Goals as goal

pub loop-part-preserved : goal.loop-part-preserved
loop-part-preserved c =
    subst (λ judged. JudgedSoFar c.deref-part-items.result.now (c.loop-part.part-index + 1) judged) (sym c.in_ok-push.ensures.items)
    (judged_more c.deref-part-items.result.now c.loop-part.part-index c.loop-part.judged.items c.loop-part.invariant c.part-item.result c.loop-part-test.true c.part-item.is c.in_ok-judge_part.field-0
    (subst (λ os. IsJudged os c.in_ok-judge_part.field-0) c.deref.ensures.value c.in_ok-judge_part.ensures))

-- the judgements of all parts
all_judged : (items parts : List (Vec Operation Global)) → parts ≡ items → (i : ℕ) → length parts ≤ i → i ≤ length parts → (judged : List (Option Judgement)) → JudgedSoFar parts i judged → JudgedSoFar items (length items) judged
all_judged items parts same i long short judged so_far =
    subst (λ ps. JudgedSoFar ps (length ps) judged) same (subst (λ n. JudgedSoFar parts n judged) (let e : i ≡ length parts = omega arith in e) so_far)

pub returns-clause-each : goal.returns-clause-each
returns-clause-each c =
    each_is_judged c.args.operations.now c.args.count c.requires c.in_ok-parts.parts.items (ap length (sym c.deref-part-items.ensures.value) ∙ c.deref-part-items.ensures.len ∙ c.in_ok-parts.ensures.count) c.in_ok-parts.ensures.each c.loop-part.judged.items
    (all_judged c.in_ok-parts.parts.items c.deref-part-items.result.now c.deref-part-items.ensures.value c.loop-part.part-index c.loop-part-test.false c.loop-part.auto.part-index-end c.loop-part.judged.items c.loop-part.invariant)

pub returns-clause-all : goal.returns-clause-all
returns-clause-all c =
    all_together c.args.operations.now c.args.count c.requires c.in_ok-parts.parts.items (ap length (sym c.deref-part-items.ensures.value) ∙ c.deref-part-items.ensures.len ∙ c.in_ok-parts.ensures.count) c.in_ok-parts.ensures.each c.loop-part.judged.items
    (all_judged c.in_ok-parts.parts.items c.deref-part-items.result.now c.deref-part-items.ensures.value c.loop-part.part-index c.loop-part-test.false c.loop-part.auto.part-index-end c.loop-part.judged.items c.loop-part.invariant)

pub returns-clause-not : goal.returns-clause-not
returns-clause-not c =
    not_together c.args.operations.now c.args.count c.requires c.in_ok-parts.parts.items (ap length (sym c.deref-part-items.ensures.value) ∙ c.deref-part-items.ensures.len ∙ c.in_ok-parts.ensures.count) c.in_ok-parts.ensures.each c.loop-part.judged.items
    (all_judged c.in_ok-parts.parts.items c.deref-part-items.result.now c.deref-part-items.ensures.value c.loop-part.part-index c.loop-part-test.false c.loop-part.auto.part-index-end c.loop-part.judged.items c.loop-part.invariant)
