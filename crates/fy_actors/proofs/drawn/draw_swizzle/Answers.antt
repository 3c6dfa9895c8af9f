use Rattle.std.proofs.Common.{rules, ◌≡◌, ◌∙◌, sym, subst}
use Rattle.fy_actors.specs.Plans.{IsSwizzle}
use Rattle.fy_actors.specs.declared.plans.PlanFault.TheVariants.{NoMemory, WordsShort}
use Rattle.fy_actors.proofs.PlansOfAll.{swizzle_enough, swizzles_within}
use Rattle.fy_actors.proofs.drawn.draw_swizzle.Goals as goal

pub unreachable-requires : goal.unreachable-requires
unreachable-requires c =
    let enough = swizzle_enough c.args.seed c.args.stream c.args.map.now c.len.result
    c.deref.result.now c.deref-2.result.now c.len.ensures.count
    (c.deref.ensures.value ∙ c.in_ok-words.ensures)
    (c.deref-2.ensures.value ∙ c.in_ok-all.ensures) in
    let bad : WordsShort c.in-Err-WordsShort.field-0-0 ≡ NoMemory =
    sym c.in-Err-WordsShort.field-0-is ∙ c.in-Err-WordsShort.ensures.memory enough in
    absurd (search rules)

pub returns-in-Ok-clause-clogs : goal.returns-in-Ok-clause-clogs
returns-in-Ok-clause-clogs c =
    (swizzles_within c.deref.result.now c.args.map.now c.in-Ok.plan
    (subst (λ them. IsSwizzle c.deref.result.now them c.in-Ok.plan)
    (c.deref-2.ensures.value ∙ c.in_ok-all.ensures) c.in-Ok.ensures.made)).0

pub returns-in-Ok-clause-frees : goal.returns-in-Ok-clause-frees
returns-in-Ok-clause-frees c =
    (swizzles_within c.deref.result.now c.args.map.now c.in-Ok.plan
    (subst (λ them. IsSwizzle c.deref.result.now them c.in-Ok.plan)
    (c.deref-2.ensures.value ∙ c.in_ok-all.ensures) c.in-Ok.ensures.made)).1
