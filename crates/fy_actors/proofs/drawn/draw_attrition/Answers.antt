use Rattle.std.proofs.Common.{rules, ◌≡◌, ◌∙◌, sym}
use Rattle.fy_actors.specs.declared.plans.PlanFault.TheVariants.{NoMemory, WordsShort}
use Rattle.fy_actors.proofs.PlansOfAll.{attrition_enough}
use Rattle.fy_actors.proofs.drawn.draw_attrition.Goals as goal

pub unreachable-requires : goal.unreachable-requires
unreachable-requires c =
    let enough = attrition_enough c.args.seed c.args.stream c.args.map.now c.len.result
    c.deref.result.now c.len.ensures.count (c.deref.ensures.value ∙ c.in_ok-words.ensures) in
    let bad : WordsShort c.in-Err-WordsShort.field-0-0 ≡ NoMemory =
    sym c.in-Err-WordsShort.field-0-is ∙ c.in-Err-WordsShort.ensures.memory enough in
    absurd (search rules)
